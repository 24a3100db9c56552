-- Texts written in turn: what a loop has written after one more of them.
use Rattle.std.proofs.Common.{◌≡◌, ℕ, ◌+◌, List, [], ◌++◌, append-nil, add-one, rules, sym}
use Rattle.std.specs.declared.fmt.Formatter.{Formatter}
use Rattle.std.specs.Fmt.{HasWritten, IsPlainFormatter}
use Rattle.std.proofs.Output.{has_written_append, has_written_of_eq}
use Rattle.report.specs.Lines.{in_turn}

module _ {W : Type 0} (took : W → List ℕ → W → Type 0) (text : ℕ → List ℕ) (f : Formatter W) where
  pub none_yet : IsPlainFormatter f → HasWritten took f (in_turn 0 text) f
  unfolding in_turn
  none_yet plain = search rules

  pub one_more : (n : ℕ) (g h : Formatter W) → HasWritten took f (in_turn n text) g → HasWritten took g (text n) h → HasWritten took f (in_turn (n + 1) text) h
  unfolding in_turn
  one_more n g h so_far this = rw add-one (has_written_append took f (in_turn n text) g (text n) h so_far this)

  -- nothing is written of the next
  pub one_empty : (n : ℕ) (g h : Formatter W) → text n ≡ [] → h ≡ g → HasWritten took f (in_turn n text) g → HasWritten took f (in_turn (n + 1) text) h
  unfolding in_turn
  one_empty n g h empty same so_far = rw (add-one, empty, same) (has_written_of_eq took f (in_turn n text) (in_turn n text ++ []) g (sym (append-nil (in_turn n text))) so_far)

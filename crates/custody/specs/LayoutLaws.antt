-- A register and a page keep their numbers.
use Rattle.std.proofs.Common.{◌≡◌, ℕ, ◌/◌, ◌<◌, ◌≤◌, cond, eqb, List, get_or, set, length, ap, arith}
use Rattle.std.proofs.lemmas.Bool.Decides.{nat_tests}
use Rattle.std.proofs.lemmas.Grind.{get_or-set_at}
use Rattle.std.proofs.lemmas.List.{places, get_or-set_other, length-set, length-append, length-replicate, length-drop}
use Rattle.custody.specs.Layouts.{LawfulLayout}
use Rattle.custody.specs.Registers.{register_layout}
use Rattle.custody.specs.Pages.{page_layout}
use Rattle.custody.specs.Words.{bytes_stored, word_stored, bytes_cleared, word_cleared}

number_set : (cells : List ℕ) (b n k : ℕ) → b < length cells → get_or (set cells b n) k 0 ≡ cond (eqb k b) n (get_or cells k 0)
number_set cells b n k inside = grind (arith, nat_tests, get_or-set_at, get_or-set_other)

length_cleared : (cells : List ℕ) (n : ℕ) → n ≤ length cells → length (register_layout.cleared cells n) ≡ length cells
length_cleared cells n h = simp (length-append, length-replicate, length-drop) (omega arith)

number_cleared : (cells : List ℕ) (n k : ℕ) → n ≤ length cells → k < n → get_or (register_layout.cleared cells n) k 0 ≡ 0
number_cleared cells n k inside h = grind (arith, places)

pub register_layout_lawful : LawfulLayout register_layout
register_layout_lawful = record {
  room_stored = λ cells b n inside. length-set cells b n;
  number_stored = λ cells b n k inside fits within. number_set cells b n k inside;
  room_cleared = length_cleared;
  number_cleared = number_cleared;
}

pub page_layout_lawful : LawfulLayout page_layout
page_layout_lawful = record {
  room_stored = λ bytes b n inside. ap (λ (l : ℕ). l / 8) (bytes_stored bytes b n inside);
  number_stored = word_stored;
  room_cleared = λ bytes n inside. ap (λ (l : ℕ). l / 8) (bytes_cleared bytes n inside);
  number_cleared = word_cleared;
}

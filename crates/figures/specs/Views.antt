-- A state in which some units are gone from a box, and all else is as it was. It keeps to the same bounds.
use Rattle.std.specs.Prelude.{ℕ, ◌-◌, ◌≤◌, Bool, true, false, cond, ◌==◌}
use Rattle.std.proofs.Common.{arith}
use Rattle.rules.specs.Sizes.{most_units, most_haircut}
use Rattle.rules.specs.States.{State}
use Rattle.rules.specs.Orders.{with_held, fewer}
use Rattle.figures.specs.Bounds.{Bounded}

-- no haircut is above the whole
abbrev pub HaircutsBounded : {S : Type 0} → (S → State) → Type 0
HaircutsBounded {S} state = (s : S) (asset : ℕ) → (state s).haircut asset ≤ most_haircut

abbrev pub without : State → (b units : ℕ) → State
without s b units = with_held s (fewer s.held b units)

-- fewer units in one box, or another box
fewer_most : (t : Bool) (m x n y : ℕ) → x ≤ m → y ≤ m → cond t (x - n) y ≤ m
fewer_most true m x n y h k = omega arith
fewer_most false m x n y h k = k

pub without_bounded : {S L : Type 0} (ledger : S → L) (b units : S → ℕ) (state : L → State) → Bounded state → Bounded (λ s. without (state (ledger s)) (b s) (units s))
without_bounded ledger b units state h = record {
  rows = λ s. h.rows (ledger s);
  yen = λ s. h.yen (ledger s);
  prices = λ s. h.prices (ledger s);
  units = λ s k. fewer_most (k == b s) most_units ((state (ledger s)).held (b s)) (units s) ((state (ledger s)).held k) (h.units (ledger s) (b s)) (h.units (ledger s) k);
}

-- The bounds of what a book holds, which keep every figure within 64 bits.
use Rattle.std.specs.Prelude.{◌≡◌, ℕ, ◌*◌, ◌≤◌}
use Rattle.rules.specs.Sizes.{accounts, most_units, most_price}
use Rattle.rules.specs.States.{State, RowAllowed}

pub record Bounded {S : Type 0} (state : S → State) : Type 0 where
  pub rows : (s : S) (account : ℕ) → RowAllowed account ((state s).rows account)
  pub yen : (s : S) → (state s).price 0 ≡ 1
  pub prices : (s : S) (asset : ℕ) → (state s).price asset ≤ most_price
  pub units : (s : S) (b : ℕ) → (state s).held b ≤ most_units

-- the most that a box can be worth: shares, at the highest price
abbrev pub most_worth : ℕ
most_worth = 1000000000000000

-- the most that the four boxes of a pocket can be worth
abbrev pub most_pocket : ℕ
most_pocket = 4000000000000000

-- the most that pockets of all accounts can be worth
abbrev pub most_total : ℕ
most_total = accounts * most_pocket

-- more lots than any counts of the code's type can add up to
abbrev pub most_lots : ℕ
most_lots = 100000000000

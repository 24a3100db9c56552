-- What deposits are worth, in whole yen.
use Rattle.std.specs.Prelude.{ℕ, ◌-◌, ◌*◌, ◌/◌, cond, not, ◌||◌, [], ◌∷◌, Result, ◌==◌, nat_lt}
use Rattle.rules.specs.declared.refusal.Refusal.{Refusal}
use Rattle.rules.specs.declared.refusal.Refusal.TheVariants.{WrongAsset, OutOfRange}
use Rattle.rules.specs.Sizes.{assets, most_units, most_amount, most_price, most_haircut}
use Rattle.rules.specs.Refusals.{answered}

-- A price counts units of an asset in some fraction of a yen, and the scale turns the product back into yen:
--   0 yen               counted in yen               priced in yen, always 1
--   1 foreign currency  counted in cents             priced in hundredths of a yen for a whole unit of the currency
--   2 bonds             counted in yen of face       priced in hundredths of a yen for 100 yen of face
--   3 shares            counted in shares            priced in tenths of a yen for a share
abbrev pub scale : ℕ → ℕ
scale asset = cond (asset == 0) 1 (cond (asset == 3) 10 10000)

-- The market value of the units in one box, rounded down to whole yen. All claims count by it.
unfoldable pub market : (asset price units : ℕ) → ℕ
market asset price units = units * price / scale asset

-- The applied value: what is left of a box's market value after the haircut, a part in thousandths, rounded down
-- again. Margin is covered by it; no claim ever counts by it.
unfoldable pub applied : (market_value haircut : ℕ) → ℕ
applied market_value haircut = market_value * (most_haircut - haircut) / most_haircut

-- Both as calls that refuse numbers outside their limits.
abbrev pub market_answer : (asset price units : ℕ) → Result ℕ Refusal
market_answer asset price units =
    answered ((WrongAsset, not (nat_lt asset assets)) ∷ (OutOfRange, nat_lt most_price price || nat_lt most_units units) ∷ []) (market asset price units)

abbrev pub applied_answer : (market_value haircut : ℕ) → Result ℕ Refusal
applied_answer market_value haircut =
    answered ((OutOfRange, nat_lt most_amount market_value || nat_lt most_haircut haircut) ∷ []) (applied market_value haircut)

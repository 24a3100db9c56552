-- What a box can be worth, at market and with the haircut applied.
use Rattle.std.proofs.Common.{◌≡◌, ℕ, zero, suc, ◌-◌, ◌*◌, ◌<◌, ◌≤◌, Ok, refl, mul-le-mul, mul-le-mul_left, arith}
use native.Mathlib.Nat.{div-le_of_le-mul}
use Rattle.std.proofs.lemmas.Bool.Decides.{nat_tests}
use Rattle.rules.specs.Sizes.{assets, most_price, most_units, most_haircut}
use Rattle.rules.specs.Values.{market, applied, market_answer, applied_answer}
use Rattle.figures.specs.Bounds.{most_worth}

-- at most 10^16 of priced units, which is divided by ten at least unless they are yen at 1
pub worth_most : (asset price units : ℕ) → asset < assets → (asset ≡ 0 → price ≡ 1) → price ≤ most_price → units ≤ most_units → market asset price units ≤ most_worth
unfolding market
worth_most zero price units a y p u = rw (y refl) (omega arith)
worth_most (suc zero) price units a y p u = omega (arith, mul-le-mul u p)
worth_most (suc (suc zero)) price units a y p u = omega (arith, mul-le-mul u p)
worth_most (suc (suc (suc zero))) price units a y p u = omega (arith, mul-le-mul u p)
worth_most (suc (suc (suc (suc n)))) price units a y p u = absurd (omega arith)

-- within the limits a market value is never refused
pub worth_answered : (asset price units : ℕ) → asset < assets → price ≤ most_price → units ≤ most_units → market_answer asset price units ≡ Ok (market asset price units)
worth_answered asset price units a p u = grind (arith, nat_tests)

-- the haircut only takes away
pub applied_most : (value haircut : ℕ) → value ≤ most_worth → applied value haircut ≤ most_worth
unfolding applied
applied_most value haircut v =
    let part : most_haircut - haircut ≤ most_haircut = omega arith in
    let whole : value * (most_haircut - haircut) ≤ most_haircut * value = omega (arith, mul-le-mul_left value part) in
    omega (arith, div-le_of_le-mul most_haircut whole)

pub applied_answered : (value haircut : ℕ) → value ≤ most_worth → haircut ≤ most_haircut → applied_answer value haircut ≡ Ok (applied value haircut)
applied_answered value haircut v h = grind (arith, nat_tests)

-- How large signed numbers can be, one more term of their sums, and moves that are clamped.
use Rattle.std.proofs.Common.{◌≡◌, ℕ, zero, suc, ◌+◌, ◌≤◌, List, [], ◌∷◌, map, get_or, ℤ, pos, negsuc, ◌+ℤ◌, nat_abs, ap, add-one, arith}
use Rattle.std.proofs.lemmas.Int.{ints, clamps}
use Rattle.std.specs.Int.{int_max}
use Rattle.margin.specs.Losses.{nearest, sumℤ, above_0}

pub abs_above_0 : (z : ℤ) → nat_abs (int_max z (pos 0)) ≡ above_0 z
abs_above_0 (pos n) = grind (arith, ints)
abs_above_0 (negsuc n) = grind (arith, ints)

pub sumℤ_more : (n : ℕ) (f : ℕ → ℤ) → sumℤ (n + 1) f ≡ sumℤ n f +ℤ f n
sumℤ_more n f = ap (λ (m : ℕ). sumℤ m f) (add-one n)

near : (z : ℤ) → nat_abs (nearest z) ≤ 10000000
near z = omega (arith, ints, clamps)

row_near : (xs : List ℤ) (k : ℕ) → nat_abs (get_or (map nearest xs) k (pos 0)) ≤ 10000000
row_near [] k = omega arith
row_near (x ∷ xs) zero = near x
row_near (x ∷ xs) (suc k) = row_near xs k

pub rows_near : (rows : List (List ℤ)) (s k : ℕ) → nat_abs (get_or (get_or (map (map nearest) rows) s []) k (pos 0)) ≤ 10000000
rows_near [] s k = omega arith
rows_near (r ∷ rs) zero k = row_near r k
rows_near (r ∷ rs) (suc s) k = rows_near rs s k

-- Worst-loss margin keeps the two laws of a margin method.
use Rattle.std.specs.Prelude.{◌≡◌, ℕ, zero, suc, ◌+◌, ◌*◌, ◌<◌, ◌≤◌, List, [], ℤ, pos, negsuc, ◌+ℤ◌, ◌-ℤ◌, ◌*ℤ◌, neg_ℤ, slice_index_or, unsigned_abs, refl}
use Rattle.std.proofs.Common.{ap, mul-le-mul, suc-mul, arith}
use Rattle.std.proofs.Math.IntN.{zero-*ℤ}
use Rattle.std.proofs.lemmas.Int.{ints}
use Rattle.rules.specs.declared.row.Lots.{Lots}
use Rattle.rules.specs.declared.row.Counts.{Counts}
use Rattle.rules.specs.Sizes.{contracts, most_count, most_amount}
use Rattle.rules.specs.States.{Countable, LawfulMethod, lots, lots_of, flat}
use Rattle.rules.proofs.Same.{none_flat}
use Rattle.margin.specs.Losses.{scenarios, sumℤ, gain_at, loss, above_0, largest, worst_loss}

pub abs_neg : (z : ℤ) → unsigned_abs (neg_ℤ z) ≡ unsigned_abs z
abs_neg (pos zero) = refl
abs_neg (pos (suc n)) = refl
abs_neg (negsuc n) = refl

pub abs_mul : (a b : ℤ) → unsigned_abs (a *ℤ b) ≡ unsigned_abs a * unsigned_abs b
abs_mul (pos a) (pos b) = refl
abs_mul (pos a) (negsuc b) = abs_neg (pos (a * suc b))
abs_mul (negsuc a) (pos b) = abs_neg (pos (suc a * b))
abs_mul (negsuc a) (negsuc b) = refl

abs_add : (a b : ℤ) → unsigned_abs (a +ℤ b) ≤ unsigned_abs a + unsigned_abs b
abs_add a b = omega (arith, ints)

sumℤ_most : (n m : ℕ) (f : ℕ → ℤ) → ((k : ℕ) → k < n → unsigned_abs (f k) ≤ m) → unsigned_abs (sumℤ n f) ≤ n * m
sumℤ_most zero m f h = omega arith
sumℤ_most (suc n) m f h =
    let front = sumℤ_most n m f (λ k b. h k (omega arith)) in let back = h n (omega arith) in let both = abs_add (sumℤ n f) (f n) in omega (arith, suc-mul n m)

sumℤ_none : (n : ℕ) (f : ℕ → ℤ) → ((k : ℕ) → f k ≡ pos 0) → sumℤ n f ≡ pos 0
sumℤ_none zero f h = refl
sumℤ_none (suc n) f h = rw (sumℤ_none n f h, h n)

above_0_most : (z : ℤ) → above_0 z ≤ unsigned_abs z
above_0_most (pos n) = omega arith
above_0_most (negsuc n) = omega arith

largest_most : (n m : ℕ) (f : ℕ → ℕ) → ((k : ℕ) → f k ≤ m) → largest n f ≤ m
largest_most zero m f h = omega arith
largest_most (suc n) m f h = let front = largest_most n m f h in let back = h n in omega arith

largest_none : (n : ℕ) (f : ℕ → ℕ) → ((k : ℕ) → f k ≡ 0) → largest n f ≡ 0
largest_none zero f h = refl
largest_none (suc n) f h = let front = largest_none n f h in let back = h n in omega arith

-- no move beyond its limit
abbrev pub Moderate : List (List ℤ) → Type 0
Moderate sheet = (s k : ℕ) → unsigned_abs (slice_index_or (slice_index_or sheet s []) k (pos 0)) ≤ 10000000

-- the most that one contract can gain or lose
abbrev pub most_gain : ℕ
most_gain = 10000000000000

module _ (sheet : List (List ℤ)) (moderate : Moderate sheet) (s : ℕ) where
  gain_most : (counts : Counts) → Countable counts → (k : ℕ) → k < contracts → unsigned_abs (gain_at (slice_index_or sheet s []) counts k) ≤ most_gain
  gain_most counts few k h =
      let p = (few k h).0 in
      let q = (few k h).1 in
      let d : unsigned_abs (pos (lots_of counts k).long -ℤ pos (lots_of counts k).short) ≤ most_count = omega (arith, ints) in
      rw (abs_mul (pos (lots_of counts k).long -ℤ pos (lots_of counts k).short) (slice_index_or (slice_index_or sheet s []) k (pos 0))) (mul-le-mul d (moderate s k))

  loss_most : (counts : Counts) → Countable counts → above_0 (loss (slice_index_or sheet s []) counts) ≤ most_amount
  loss_most counts few =
      let z = sumℤ contracts (gain_at (slice_index_or sheet s []) counts) in
      omega (arith, above_0_most (neg_ℤ z), abs_neg z, sumℤ_most contracts most_gain (gain_at (slice_index_or sheet s []) counts) (gain_most counts few))

gain_none : (these : Lots) (move : ℤ) → these ≡ lots 0 0 → (pos these.long -ℤ pos these.short) *ℤ move ≡ pos 0
gain_none these move p = rw p (zero-*ℤ move)

loss_flat : (moves : List ℤ) → above_0 (loss moves flat) ≡ 0
loss_flat moves =
    let none : (k : ℕ) → gain_at moves flat k ≡ pos 0 = λ k. gain_none _ (slice_index_or moves k (pos 0)) (none_flat k) in
    ap (λ (z : ℤ). above_0 (neg_ℤ z)) (sumℤ_none contracts (gain_at moves flat) none)

pub worst_lawful : (sheet : List (List ℤ)) → Moderate sheet → LawfulMethod (worst_loss sheet)
worst_lawful sheet moderate = record {
  none_when_flat = largest_none scenarios (λ s. above_0 (loss (slice_index_or sheet s []) flat)) (λ s. loss_flat (slice_index_or sheet s []));
  bounded = λ counts few. largest_most scenarios most_amount (λ s. above_0 (loss (slice_index_or sheet s []) counts)) (λ s. loss_most sheet moderate s counts few);
}

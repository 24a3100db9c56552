-- Net and gross margin, and the worst of losses, compared.
use Rattle.std.proofs.Common.{◌≡◌, ℕ, zero, suc, ◌+◌, ◌<◌, ◌≤◌, ◌⊎◌, List, [], get_or, ℤ, pos, negsuc, ◌≤ℤ◌, sym, refl, inl, inr, ⊎_elim, mul-le-mul_right, arith}
use Rattle.std.proofs.lemmas.Int.{ints}
use Rattle.std.proofs.lemmas.Bool.{cases_eq, cases_lt}
use Rattle.rules.specs.declared.row.Counts.{Counts}
use Rattle.rules.specs.Sizes.{contracts}
use Rattle.rules.specs.States.{lots_of}
use Rattle.rules.proofs.Sums.{sum_less}
use Rattle.margin.specs.Rates.{asked_at, asked, set_off}
use Rattle.margin.specs.Losses.{scenarios, loss, above_0, largest, worst_loss}
use Rattle.margin.specs.Comparisons.{NetAtMostGross, WorstIsALoss}

pub net_at_most_gross : NetAtMostGross
unfolding asked
net_at_most_gross rates counts =
    sum_less contracts (asked_at set_off rates counts) (asked_at ◌+◌ rates counts)
    (λ k h. mul-le-mul_right (get_or rates k 0) (fewer (lots_of counts k).long (lots_of counts k).short))
  where
    fewer : (long short : ℕ) → set_off long short ≤ long + short
    fewer long short = omega arith

-- the largest is as large as each, and is one of them or 0
largest_covers : (n : ℕ) (f : ℕ → ℕ) (s : ℕ) → s < n → f s ≤ largest n f
largest_covers zero f s h = omega arith
largest_covers (suc n) f s h =
    ⊎_elim (λ (e : s ≡ n). rw e (omega arith)) (λ e. let front = largest_covers n f s (omega arith) in omega arith) (cases_eq s n)

attained : (n : ℕ) (f : ℕ → ℕ) → (largest n f ≡ 0) ⊎ ((s : ℕ) × ((s < n) × (f s ≡ largest n f)))
attained zero f = inl refl
attained (suc n) f = go (cases_lt (largest n f) (f n)) (attained n f)
  where
    go : (largest n f < f n) ⊎ (f n ≤ largest n f) → (largest n f ≡ 0) ⊎ ((s : ℕ) × ((s < n) × (f s ≡ largest n f))) →
        (largest (suc n) f ≡ 0) ⊎ ((s : ℕ) × ((s < suc n) × (f s ≡ largest (suc n) f)))
    go (inl h) old = inr (n, (omega arith, omega arith))
    go (inr h) (inl z) = inl (omega arith)
    go (inr h) (inr (s, (l, e))) = inr (s, (omega arith, omega arith))

loss_covered : (z : ℤ) (n : ℕ) → above_0 z ≤ n → z ≤ℤ pos n
loss_covered (pos m) n h = omega (arith, ints)
loss_covered (negsuc m) n h = omega (arith, ints)

is_loss : (z : ℤ) (n : ℕ) → above_0 z ≡ n → (n ≡ 0 → ⊥) → z ≡ pos n
is_loss (pos m) n e q = omega (arith, ints)
is_loss (negsuc m) n e q = absurd (q (sym e))

pub worst_is_a_loss : WorstIsALoss
worst_is_a_loss = record { covers = λ sheet counts s h. loss_covered _ _ (largest_covers scenarios (λ s. above_0 (loss (get_or sheet s []) counts)) s h); is_one = one }
  where
    one : (sheet : List (List ℤ)) (counts : Counts) →
        (worst_loss sheet counts ≡ 0) ⊎ ((s : ℕ) × ((s < scenarios) × (loss (get_or sheet s []) counts ≡ pos (worst_loss sheet counts))))
    one sheet counts = go (cases_eq (worst_loss sheet counts) 0) (attained scenarios (λ s. above_0 (loss (get_or sheet s []) counts)))
      where
        go : (worst_loss sheet counts ≡ 0) ⊎ (worst_loss sheet counts ≡ 0 → ⊥) →
            (worst_loss sheet counts ≡ 0) ⊎ ((s : ℕ) × ((s < scenarios) × (above_0 (loss (get_or sheet s []) counts) ≡ worst_loss sheet counts))) →
            (worst_loss sheet counts ≡ 0) ⊎ ((s : ℕ) × ((s < scenarios) × (loss (get_or sheet s []) counts ≡ pos (worst_loss sheet counts))))
        go (inl z) found = inl z
        go (inr q) (inl z) = inl z
        go (inr q) (inr (s, (l, e))) = inr (s, (l, is_loss _ _ e q))

-- Worst-loss margin: a sheet has scenarios, each a move of the price of every contract. What the counts would lose in
-- the worst of them is asked.
use Rattle.std.specs.Prelude.{ℕ, zero, suc, max, List, [], ℤ, pos, negsuc, ◌+ℤ◌, ◌-ℤ◌, ◌*ℤ◌, neg_ℤ, slice_index_or}
use Rattle.std.specs.Int.{int_max, int_min}
use Rattle.rules.specs.declared.row.Counts.{Counts}
use Rattle.rules.specs.Sizes.{contracts}
use Rattle.rules.specs.States.{lots_of}

abbrev pub scenarios : ℕ
scenarios = 16

-- a move beyond 10,000,000 on either side is taken as 10,000,000 on that side
abbrev pub nearest : ℤ → ℤ
nearest move = int_max (negsuc 9999999) (int_min move (pos 10000000))

-- f 0 + f 1 + .. + f (n - 1)
abbrev pub sumℤ : ℕ → (ℕ → ℤ) → ℤ
sumℤ zero f = pos 0
sumℤ (suc n) f = sumℤ n f +ℤ f n

-- what contract k gains when its price moves: long lots gain by a rise, short lots by a fall
abbrev pub gain_at : (moves : List ℤ) → Counts → ℕ → ℤ
gain_at moves counts k = (pos (lots_of counts k).long -ℤ pos (lots_of counts k).short) *ℤ slice_index_or moves k (pos 0)

-- what a scenario would cost, below 0 where it would gain
abbrev pub loss : (moves : List ℤ) → Counts → ℤ
loss moves counts = neg_ℤ (sumℤ contracts (gain_at moves counts))

-- a loss above 0, and else 0
abbrev pub above_0 : ℤ → ℕ
above_0 (pos n) = n
above_0 (negsuc n) = 0

-- the largest of f 0, f 1, .., f (n - 1), and 0 where there is none
abbrev pub largest : ℕ → (ℕ → ℕ) → ℕ
largest zero f = 0
largest (suc n) f = max (largest n f) (f n)

-- the amount: the largest loss, or 0 where no scenario costs anything
abbrev pub worst_loss : (sheet : List (List ℤ)) → Counts → ℕ
worst_loss sheet counts = largest scenarios (λ s. above_0 (loss (slice_index_or sheet s []) counts))

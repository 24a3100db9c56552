-- Laws of the methods in the words of margin, above their definitions.
use Rattle.std.specs.Prelude.{◌≡◌, ℕ, ◌<◌, ◌≤◌, ◌⊎◌, List, [], ℤ, pos, ◌≤ℤ◌, slice_index_or}
use Rattle.rules.specs.declared.row.Counts.{Counts}
use Rattle.margin.specs.Rates.{net_amount, gross_amount}
use Rattle.margin.specs.Losses.{scenarios, loss, worst_loss}

-- setting off never asks more: at equal rates, net margin is at most gross margin
abbrev pub NetAtMostGross : Type 0
NetAtMostGross = (rates : List ℕ) (counts : Counts) → net_amount rates counts ≤ gross_amount rates counts

-- worst-loss margin covers the loss of every scenario, and asks for no more: it is 0, or the loss of one of them
pub record WorstIsALoss : Type 0 where
  pub covers : (sheet : List (List ℤ)) (counts : Counts) (s : ℕ) → s < scenarios → loss (slice_index_or sheet s []) counts ≤ℤ pos (worst_loss sheet counts)
  pub is_one : (sheet : List (List ℤ)) (counts : Counts) →
      (worst_loss sheet counts ≡ 0) ⊎ ((s : ℕ) × ((s < scenarios) × (loss (slice_index_or sheet s []) counts ≡ pos (worst_loss sheet counts))))

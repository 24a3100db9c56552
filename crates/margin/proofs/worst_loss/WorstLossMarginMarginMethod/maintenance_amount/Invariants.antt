use Rattle.std.proofs.Common.{◌≡◌, [], get_or}
use Rattle.margin.specs.Losses.{largest, above_0, loss}
use Rattle.margin.proofs.worst_loss.WorstLossMarginMarginMethod.maintenance_amount.Given as goal

abbrev pub invariant-loop-moves : goal.invariant-loop-moves
invariant-loop-moves l = l.worst ≡ largest l.moves-index (λ s. above_0 (loss (get_or l.self.moves s []) l.counts.counts))

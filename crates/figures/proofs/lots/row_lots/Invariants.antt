use Rattle.std.proofs.Common.{◌≡◌, ◌+◌, ◌*◌, ◌≤◌}
use Rattle.rules.specs.Sizes.{sum}
use Rattle.rules.specs.States.{lots_of}
use Rattle.figures.proofs.lots.row_lots.Given as goal

abbrev pub invariant-loop-lots : goal.invariant-loop-lots
invariant-loop-lots l = (l.sum ≡ sum l.lots-index (λ k. (lots_of l.counts k).long + (lots_of l.counts k).short)) × (l.sum ≤ l.lots-index * 8589934590)

use Rattle.std.proofs.Common.{◌≡◌, ◌++◌, map, take, drop}
use Rattle.margin.specs.Losses.{nearest}
use Rattle.margin.proofs.scenarios.WorstLossMargin.new.Given as goal

abbrev pub invariant-loop-row : goal.invariant-loop-row
invariant-loop-row l = l.row-items ≡ map (map nearest) (take l.row-index l.initial.row-items) ++ drop l.row-index l.initial.row-items

use Rattle.std.proofs.Common.{arith, rules}
use Rattle.rules.proofs.Sums.{sum_turn}
use Rattle.figures.proofs.lots.row_lots.Goals as goal

pub loop-lots-preserved : goal.loop-lots-preserved
loop-lots-preserved c = (sum_turn _ _ _ _ c.loop-lots.invariant.0 (search rules), omega arith)

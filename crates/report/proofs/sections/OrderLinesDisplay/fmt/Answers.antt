use Rattle.std.proofs.Common.{rules}
use Rattle.report.proofs.InTurn.{none_yet, one_more}
use Rattle.report.proofs.sections.OrderLinesDisplay.fmt.Goals as goal

pub loop-index-init : goal.loop-index-init
loop-index-init g c plain = none_yet _ _ _ plain

pub loop-index-preserved : goal.loop-index-preserved
loop-index-preserved g c plain = one_more _ _ _ _ _ _ (c.loop-index.invariant plain) (search rules)

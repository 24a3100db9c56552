use Rattle.std.specs.Fmt.{HasWritten, IsPlainFormatter}
use Rattle.std.proofs.Common.{slice_index}
use Rattle.report.specs.Lines.{in_turn}
use Rattle.report.specs.Reports.{order_line}
use Rattle.report.proofs.sections.OrderLinesDisplay.fmt.Given as goal

-- the lines of the orders before this one are written
abbrev pub invariant-loop-index : goal.invariant-loop-index
invariant-loop-index g l =
    IsPlainFormatter l.initial.f → HasWritten g.W.Write.write_str_gives l.initial.f (in_turn l.index (λ i. order_line i (slice_index l.self.answers.now i))) l.f

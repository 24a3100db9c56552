use Rattle.std.specs.Fmt.{HasWritten, IsPlainFormatter}
use Rattle.report.specs.Lines.{in_turn}
use Rattle.report.specs.Reports.{account_lines}
use Rattle.report.proofs.sections.AccountLinesDisplay.fmt.Given as goal

-- the lines of the accounts before this one are written
abbrev pub invariant-loop-account : goal.invariant-loop-account
invariant-loop-account g l =
    IsPlainFormatter l.initial.f → HasWritten g.W.Write.write_str_gives l.initial.f (in_turn l.account-counter (account_lines (g.B.MarginBook.state l.self.book.now))) l.f

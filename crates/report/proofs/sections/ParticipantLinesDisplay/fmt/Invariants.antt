use Rattle.std.specs.Fmt.{HasWritten, IsPlainFormatter}
use Rattle.report.specs.Lines.{in_turn}
use Rattle.report.specs.Reports.{participant_lines}
use Rattle.report.proofs.sections.ParticipantLinesDisplay.fmt.Given as goal

-- the lines of the participants before this one are written
abbrev pub invariant-loop-participant : goal.invariant-loop-participant
invariant-loop-participant g l =
    IsPlainFormatter l.initial.f → HasWritten g.W.Write.write_str_gives l.initial.f (in_turn l.participant-counter (participant_lines (g.B.MarginBook.state l.self.book.now))) l.f

use Rattle.std.proofs.Common.{◌≤◌}
use Rattle.vectors.proofs.compare_all.Given as goal

-- no more files agree than were looked at
abbrev pub invariant-loop-number : goal.invariant-loop-number
invariant-loop-number l = l.agreed ≤ l.number-counter

use Rattle.std.proofs.Common.{◌≡◌}
use Rattle.figures.specs.Parts.{parts_below}
use Rattle.figures.proofs.parts.total_parts.Given as goal

abbrev pub invariant-loop-account : goal.invariant-loop-account
invariant-loop-account g l = l.sums ≡ parts_below (g.L.Ledger.state l.ledger) l.participant l.account

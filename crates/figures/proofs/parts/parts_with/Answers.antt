use Rattle.std.proofs.Common.{sym, ◌∙◌}
use Rattle.figures.proofs.Bounded.{room}
use Rattle.figures.proofs.Turns.{parts_added, parts_passed}
use Rattle.figures.proofs.parts.parts_with.Goals as goal

pub with-requires : goal.with-requires
with-requires g c =
    let fits = room g.L.Ledger.state g.L.Ledger.laws c.args.ledger.now c.args.participant c.args.account _ _ c.requires.account c.requires.before c.account_parts.ensures in
    record { pool = fits.0; charge = fits.1; kept = fits.2; passed_on = fits.3 }

pub returns-then-is_under : goal.returns-then-is_under
returns-then-is_under g c =
    c.with.ensures ∙ parts_added (g.L.Ledger.state c.args.ledger.now) c.args.participant _ _ c.requires.before _ c.account_parts.ensures (sym c.is_under.ensures ∙ c.if-is_under.true)

pub returns-else-is_under : goal.returns-else-is_under
returns-else-is_under g c = parts_passed (g.L.Ledger.state c.args.ledger.now) c.args.participant _ _ c.requires.before (sym c.is_under.ensures ∙ c.if-is_under.false)

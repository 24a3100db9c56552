use Rattle.std.proofs.Common.{◌≡◌, ap, ◌∙◌, arith}
use Rattle.rules.specs.Sizes.{accounts}
use Rattle.rules.specs.Figures.{over, pool, charge}
use Rattle.figures.specs.Parts.{parts_below}
use Rattle.figures.proofs.parts.total_parts.Goals as goal

pub returns : goal.returns
unfolding over pool charge
returns g c =
    let end : c.loop-account.account ≡ accounts = omega arith in
    c.loop-account.invariant ∙ ap (parts_below (g.L.Ledger.state c.args.ledger.now) c.args.participant) end

use Rattle.std.proofs.Common.{rules}
use Rattle.rules.specs.Values.{applied}
use Rattle.rules.specs.Figures.{worth, applied_pocket}
use Rattle.figures.proofs.values.applied_pocket.Goals as goal

pub returns : goal.returns
unfolding applied_pocket
returns g c =
    let s = g.L.Ledger.state c.args.ledger.now in
    c.boxes_of.ensures (λ asset. applied (worth s.price s.held c.args.account _ asset) (s.haircut asset)) (λ b value a p l e. search rules)

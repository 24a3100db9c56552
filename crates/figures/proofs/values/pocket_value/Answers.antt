use Rattle.std.proofs.Common.{rules}
use Rattle.rules.specs.Figures.{worth, pocket_value}
use Rattle.figures.proofs.values.pocket_value.Goals as goal

pub returns : goal.returns
unfolding pocket_value
returns g c =
    let s = g.L.Ledger.state c.args.ledger.now in
    c.boxes_of.ensures (λ asset. worth s.price s.held c.args.account _ asset) (λ b value a p l e. search rules)

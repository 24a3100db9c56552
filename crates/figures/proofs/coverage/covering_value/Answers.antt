use Rattle.std.proofs.Common.{arith}
use Rattle.figures.proofs.Bounded.{applied_pocket_most}
use Rattle.figures.proofs.coverage.covering_value.Goals as goal

pub overflow_add-result : goal.overflow_add-result
overflow_add-result g c =
    let most = applied_pocket_most g.L.Ledger.state g.L.Ledger.laws c.args.ledger.now c.args.account in
    omega (arith, most 0, most 1)

use Rattle.std.proofs.Common.{arith}
use Rattle.figures.proofs.Bounded.{pocket_most}
use Rattle.figures.proofs.shares.own_pool.Goals as goal

pub overflow_add-result : goal.overflow_add-result
overflow_add-result g c =
    let most = pocket_most g.L.Ledger.state g.L.Ledger.laws c.args.ledger.now c.args.account in
    omega (arith, most 0, most 1)

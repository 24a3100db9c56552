use Rattle.std.proofs.Common.{arith}
use Rattle.figures.proofs.Bounded.{pocket_most}
use Rattle.figures.proofs.shares.customer_shares.Goals as goal

pub share_out-requires-clause-direct : goal.share_out-requires-clause-direct
share_out-requires-clause-direct g c = omega (arith, pocket_most g.L.Ledger.state g.L.Ledger.laws c.args.ledger.now c.args.account 0)

pub share_out-requires-clause-replacement : goal.share_out-requires-clause-replacement
share_out-requires-clause-replacement g c = omega (arith, pocket_most g.L.Ledger.state g.L.Ledger.laws c.args.ledger.now c.args.account 1)

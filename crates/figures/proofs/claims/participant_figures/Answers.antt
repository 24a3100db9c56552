use Rattle.std.proofs.Common.{arith}
use Rattle.figures.proofs.Bounded.{pool_most, kept_sum_most, passed_on_sum_most}
use Rattle.figures.proofs.claims.participant_figures.Goals as goal

pub overflow_add-result : goal.overflow_add-result
overflow_add-result g c =
    let pool = pool_most g.L.Ledger.state g.L.Ledger.laws c.args.ledger.now c.args.participant in
    let passed_on = passed_on_sum_most g.L.Ledger.state g.L.Ledger.laws c.args.ledger.now c.args.participant in
    let sums = c.total_parts-sums.ensures in
    rw (c.split-free.ensures, sums) (omega (arith, pool, passed_on))

pub overflow_add-result-2 : goal.overflow_add-result-2
overflow_add-result-2 g c =
    let pool = pool_most g.L.Ledger.state g.L.Ledger.laws c.args.ledger.now c.args.participant in
    let kept = kept_sum_most g.L.Ledger.state g.L.Ledger.laws c.args.ledger.now c.args.participant in
    let sums = c.total_parts-sums.ensures in
    rw (c.split-free.ensures, sums) (omega (arith, pool, kept))

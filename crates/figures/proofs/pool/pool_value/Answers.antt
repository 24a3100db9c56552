use Rattle.std.proofs.Common.{◌≤◌, sym, ◌∙◌, arith}
use Rattle.rules.specs.Figures.{pooled}
use Rattle.figures.specs.Bounds.{most_pocket}
use Rattle.figures.proofs.Bounded.{pooled_most}
use Rattle.figures.proofs.Turns.{added, passed}
use Rattle.figures.proofs.pool.pool_value.Goals as goal
use Rattle.figures.proofs.pool.pool_value.Goals.{then-is_under, else-is_under}

pub overflow_add-sum : goal.overflow_add-sum
overflow_add-sum g c =
    let few : c.pooled_value-sum.result ≤ most_pocket = rw c.pooled_value-sum.ensures (pooled_most g.L.Ledger.state g.L.Ledger.laws c.args.ledger.now c.loop-account.account) in
    omega (arith, few)

pub loop-account-preserved : goal.loop-account-preserved
loop-account-preserved g c =
    let s = g.L.Ledger.state c.args.ledger.now in
    elim c.if-is_under.branch [
      | then-is_under w ↦
          let few : w.pooled_value-sum.result ≤ most_pocket = rw w.pooled_value-sum.ensures (pooled_most g.L.Ledger.state g.L.Ledger.laws c.args.ledger.now c.loop-account.account) in
          rw w.sum-is (added _ (pooled s) _ _ c.loop-account.invariant.0 _ (sym c.is_under.ensures ∙ w.if-is_under.true) w.pooled_value-sum.ensures, omega (arith, few))
      | else-is_under w ↦ rw w.sum-is (passed _ (pooled s) _ _ c.loop-account.invariant.0 (sym c.is_under.ensures ∙ w.if-is_under.false), omega arith)
    ]

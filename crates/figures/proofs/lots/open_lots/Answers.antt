use Rattle.std.proofs.Common.{◌≤◌, sym, ◌∙◌, arith}
use Rattle.rules.specs.Orders.{row_lots}
use Rattle.figures.specs.Bounds.{most_lots}
use Rattle.figures.proofs.Bounded.{row_lots_most}
use Rattle.figures.proofs.Turns.{added, passed}
use Rattle.figures.proofs.lots.open_lots.Goals as goal
use Rattle.figures.proofs.lots.open_lots.Goals.{then-is_under, else-is_under}

pub overflow_add-sum : goal.overflow_add-sum
overflow_add-sum g c =
    let few : c.account_lots-sum.result ≤ most_lots = rw c.account_lots-sum.ensures (row_lots_most g.L.Ledger.state g.L.Ledger.laws c.args.ledger.now c.loop-account.account) in
    omega (arith, few)

pub loop-account-preserved : goal.loop-account-preserved
loop-account-preserved g c =
    let s = g.L.Ledger.state c.args.ledger.now in
    elim c.if-is_under.branch [
      | then-is_under w ↦
          let few : w.account_lots-sum.result ≤ most_lots = rw w.account_lots-sum.ensures (row_lots_most g.L.Ledger.state g.L.Ledger.laws c.args.ledger.now c.loop-account.account) in
          rw w.sum-is (added _ (λ a. row_lots (s.rows a).counts) _ _ c.loop-account.invariant.0 _ (sym c.is_under.ensures ∙ w.if-is_under.true) w.account_lots-sum.ensures, omega (arith, few))
      | else-is_under w ↦ rw w.sum-is (passed _ (λ a. row_lots (s.rows a).counts) _ _ c.loop-account.invariant.0 (sym c.is_under.ensures ∙ w.if-is_under.false), omega arith)
    ]

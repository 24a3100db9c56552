use Rattle.std.proofs.Common.{◌≡◌, ◌*◌, ◌≤◌, cond}
use Rattle.rules.specs.Sizes.{sum}
use Rattle.rules.specs.States.{is, under}
use Rattle.rules.specs.Orders.{row_lots}
use Rattle.figures.specs.Bounds.{most_lots}
use Rattle.figures.proofs.lots.open_lots.Given as goal

abbrev pub invariant-loop-account : goal.invariant-loop-account
invariant-loop-account g l =
    let s = g.L.Ledger.state l.ledger in
    (l.sum ≡ sum l.account (λ a. cond (is (under s.opened a) l.participant) (row_lots (s.rows a).counts) 0)) × (l.sum ≤ l.account * most_lots)

use Rattle.std.proofs.Common.{◌≡◌, ◌*◌, ◌≤◌, cond}
use Rattle.rules.specs.Sizes.{sum}
use Rattle.rules.specs.States.{is, under}
use Rattle.rules.specs.Figures.{pooled}
use Rattle.figures.specs.Bounds.{most_pocket}
use Rattle.figures.proofs.pool.pool_value.Given as goal

abbrev pub invariant-loop-account : goal.invariant-loop-account
invariant-loop-account g l =
    let s = g.L.Ledger.state l.ledger in
    (l.sum ≡ sum l.account (λ a. cond (is (under s.opened a) l.participant) (pooled s a) 0)) × (l.sum ≤ l.account * most_pocket)

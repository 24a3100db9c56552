use Rattle.std.proofs.Common.{◌≡◌, ◌≤◌, min, refl, ap, ◌∙◌, arith}
use Rattle.std.proofs.lemmas.Bool.{le-ltb}
use Rattle.rules.specs.Sizes.{accounts}
use Rattle.rules.specs.Figures.{over, pool, charge, kept_from_pool}
use Rattle.figures.specs.declared.parts.Parts.{Parts}
use Rattle.figures.specs.Parts.{parts_below}
use Rattle.figures.proofs.Turns.{below_all}
use Rattle.figures.proofs.pool.pool_falls_short.Goals as goal

pub returns-then-min-value : goal.returns-then-min-value
unfolding kept_from_pool
returns-then-min-value g c =
    let all = below_all (g.L.Ledger.state c.args.ledger.now) c.args.participant _ c.loop-account.auto.account-end in
    let i = c.loop-account.invariant in
    let pool_so_far = ap (λ (p : Parts). p.pool) i in
    let charge_so_far = ap (λ (p : Parts). p.charge) i in
    let kept : c.args.value ≤ kept_from_pool (g.L.Ledger.state c.args.ledger.now) c.args.participant = omega (arith, all.0, all.1, pool_so_far, charge_so_far) in
    rw (le-ltb _ _ kept) refl

pub returns : goal.returns
unfolding kept_from_pool over pool charge
returns g c =
    let end : c.loop-account.account ≡ accounts = omega arith in
    let all = c.loop-account.invariant ∙ ap (parts_below (g.L.Ledger.state c.args.ledger.now) c.args.participant) end in
    let kept : c.min-2.result ≡ kept_from_pool (g.L.Ledger.state c.args.ledger.now) c.args.participant = c.min-2.ensures ∙ ap (λ (p : Parts). min p.pool p.charge) all in
    rw (← kept) refl

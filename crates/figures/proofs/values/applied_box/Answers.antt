use Rattle.std.proofs.Common.{ℕ, ◌≤◌, Result, ap, ◌∙◌}
use Rattle.std.specs.Result.{result_unwrap_or}
use Rattle.rules.specs.declared.refusal.Refusal.{Refusal}
use Rattle.rules.specs.Sizes.{most_haircut}
use Rattle.figures.proofs.Worths.{applied_most, applied_answered}
use Rattle.figures.proofs.values.applied_box.Goals as goal

pub returns-clause-small : goal.returns-clause-small
returns-clause-small g c =
    let market = c.box_value-market.result in
    let haircut = c.haircut.result in
    let m = c.box_value-market.ensures.small in
    let h : haircut ≤ most_haircut = rw c.haircut.ensures (g.L.Ledger.cuts c.args.ledger.now c.args.place.asset) in
    rw (c.unwrap_or.ensures ∙ ap (λ (r : Result ℕ Refusal). result_unwrap_or r 0) (c.applied_value.ensures ∙ applied_answered market haircut m h)) (applied_most market haircut m)

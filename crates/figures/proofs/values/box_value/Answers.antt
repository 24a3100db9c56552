use Rattle.std.proofs.Common.{◌≡◌, ℕ, ◌≤◌, Ok, Result, ap, ◌∙◌}
use Rattle.std.specs.Result.{result_unwrap_or}
use Rattle.rules.specs.declared.refusal.Refusal.{Refusal}
use Rattle.rules.specs.Sizes.{most_price, most_units}
use Rattle.rules.specs.Values.{market}
use Rattle.figures.proofs.Worths.{worth_most, worth_answered}
use Rattle.figures.proofs.values.box_value.Goals as goal

pub returns-clause-small : goal.returns-clause-small
returns-clause-small g c =
    let ledger = c.args.ledger.now in
    let laws = g.L.Ledger.laws in
    let asset = c.args.place.asset in
    let price = c.price.result in
    let units = c.units-units.result in
    let p : price ≤ most_price = rw c.price.ensures (laws.prices ledger asset) in
    let u : units ≤ most_units = rw c.units-units.ensures (laws.units ledger c.number.result) in
    let one : asset ≡ 0 → price ≡ 1 = λ e. c.price.ensures ∙ ap (g.L.Ledger.state ledger).price e ∙ laws.yen ledger in
    let answer : c.market_value.result ≡ Ok (market asset price units) = c.market_value.ensures ∙ worth_answered asset price units c.requires p u in
    rw (c.unwrap_or.ensures ∙ ap (λ (r : Result ℕ Refusal). result_unwrap_or r 0) answer) (worth_most asset price units c.requires one p u)

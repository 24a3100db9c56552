use Rattle.std.proofs.Common.{◌≤◌, arith}
use Rattle.rules.proofs.Sums.{sum_turn}
use Rattle.margin.specs.RateLaws.{most_asked, asked_at_most}
use Rattle.margin.proofs.rate_margin.RateMarginMarginMethod.maintenance_amount.Goals as goal

pub loop-contract-preserved : goal.loop-contract-preserved
loop-contract-preserved g c =
    let counts = c.args.counts.now in
    let rates = c.args.self.now.rates in
    let few : c.asked-sum.result ≤ most_asked =
    rw c.asked-sum.ensures (asked_at_most g.Way.LotCounting.counted g.Way.LotCounting.laws rates.each rates.fair counts.counts counts.countable c.loop-contract.contract c.loop-contract-test.true) in
    (sum_turn _ _ _ _ c.loop-contract.invariant.0 c.asked-sum.ensures, omega (arith, few))

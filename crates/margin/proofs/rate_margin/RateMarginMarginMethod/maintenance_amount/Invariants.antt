use Rattle.std.proofs.Common.{◌≡◌, ◌*◌, ◌≤◌}
use Rattle.rules.specs.Sizes.{sum}
use Rattle.margin.specs.Rates.{asked_at}
use Rattle.margin.specs.RateLaws.{most_asked}
use Rattle.margin.proofs.rate_margin.RateMarginMarginMethod.maintenance_amount.Given as goal

abbrev pub invariant-loop-contract : goal.invariant-loop-contract
invariant-loop-contract g l = (l.sum ≡ sum l.contract (asked_at g.Way.LotCounting.counted l.self.rates.each l.counts.counts)) × (l.sum ≤ l.contract * most_asked)

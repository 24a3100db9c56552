use Rattle.std.proofs.Common.{rules, ◌≤◌, refl, sym, arith}
use Rattle.rules.proofs.Sums.{sum_none, sum_turn}
use Rattle.figures.specs.Bounds.{most_worth}
use Rattle.figures.proofs.values.boxes_of.Goals as goal

pub loop-asset-init : goal.loop-asset-init
loop-asset-init g c = (λ f h. sym (sum_none f), omega arith)

pub loop-asset-preserved : goal.loop-asset-preserved
loop-asset-preserved g c =
    let few : c.value_of-sum.result ≤ most_worth = c.requires.few _ _ c.loop-asset-test.true c.value_of-sum.ensures in (
      λ f h. sum_turn _ _ _ _ (c.loop-asset.invariant.0 f h) (h _ _ refl (search rules) c.loop-asset-test.true c.value_of-sum.ensures),
      omega (arith, few),
    )

use Rattle.std.proofs.Common.{◌≡◌, ℕ, ◌*◌, ◌<◌, ◌≤◌}
use Rattle.rules.specs.declared.boxes.DepositBox.{DepositBox as box_name}
use Rattle.rules.specs.Pockets.{pocket_number}
use Rattle.rules.specs.Sizes.{assets, sum}
use Rattle.figures.specs.Bounds.{most_worth}
use Rattle.figures.proofs.values.boxes_of.Given as goal

abbrev pub invariant-loop-asset : goal.invariant-loop-asset
invariant-loop-asset g l =
    ((f : ℕ → ℕ) → ((b : box_name) (value : ℕ) → b.account ≡ l.account → b.pocket ≡ pocket_number l.pocket → b.asset < assets → goal.F-post g l.value_of b value → value ≡ f b.asset) → l.sum ≡ sum l.asset f)
    × (l.sum ≤ l.asset * most_worth)

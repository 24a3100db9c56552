use Rattle.std.proofs.Common.{◌≡◌, ℕ, [], get_or, ap, ◌∙◌, arith}
use Rattle.margin.specs.Losses.{scenarios, largest, above_0, loss}
use Rattle.margin.proofs.worst_loss.WorstLossMarginMarginMethod.maintenance_amount.Goals as goal

pub returns : goal.returns
returns c =
    let f : ℕ → ℕ = λ s. above_0 (loss (get_or c.args.self.now.moves s []) c.args.counts.now.counts) in
    let k : c.loop-moves.moves-index ≡ scenarios = omega arith in
    c.loop-moves.invariant ∙ ap (λ (n : ℕ). largest n f) k

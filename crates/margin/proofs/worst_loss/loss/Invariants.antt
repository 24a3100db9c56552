use Rattle.std.proofs.Common.{◌≡◌, ◌*◌, ◌≤◌, nat_abs, length}
use Rattle.margin.specs.Losses.{sumℤ, gain_at}
use Rattle.margin.specs.LossLaws.{most_gain}
use Rattle.margin.proofs.worst_loss.loss.Given as goal

abbrev pub invariant-loop-lots : goal.invariant-loop-lots
invariant-loop-lots l = (nat_abs l.sum ≤ length l.yielded * most_gain) × (l.sum ≡ sumℤ (length l.yielded) (gain_at l.moves l.counts.counts))

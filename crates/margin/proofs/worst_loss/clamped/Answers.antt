use Rattle.std.proofs.Common.{◌≡◌, ℕ, ◌<◌, length, get_or, pos, rules}
use Rattle.margin.specs.Losses.{nearest}
use Rattle.margin.proofs.Clamping.{mapped}
use Rattle.margin.proofs.worst_loss.clamped.Goals as goal

pub returns : goal.returns
returns c =
    let at : (i : ℕ) → i < length c.args.moves → get_or c.map.result i (pos 0) ≡ nearest (get_or c.args.moves i (pos 0)) =
    λ i l. let k = c.map.ensures.items.at i (pos 0) (pos 0) (search rules) in search rules in
    mapped nearest c.args.moves c.map.result (pos 0) (pos 0) (search rules) at

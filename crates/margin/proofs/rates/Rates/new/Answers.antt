use Rattle.std.proofs.Common.{◌≡◌, ℕ, ◌<◌, min, length, get_or, rules}
use Rattle.margin.specs.Rates.{most_rate}
use Rattle.margin.proofs.Clamping.{mapped}
use Rattle.margin.proofs.rates.Rates.new.Goals as goal

pub returns : goal.returns
returns c =
    let at : (i : ℕ) → i < length c.args.sheet → get_or c.map.result i 0 ≡ min most_rate (get_or c.args.sheet i 0) =
    λ i l. let k = c.map.ensures.items.at i 0 0 (search rules) in search rules in
    mapped (min most_rate) c.args.sheet c.map.result 0 0 (search rules) at

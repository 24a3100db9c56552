use Rattle.std.proofs.Common.{◌<◌, ◌≤◌, List, [], map, length, set, ℤ, ap, ◌∙◌, rules}
use Rattle.margin.specs.Losses.{nearest}
use Rattle.margin.proofs.Clamping.{map_all, map_next}
use Rattle.margin.proofs.Signs.{rows_near}
use Rattle.margin.proofs.scenarios.WorstLossMargin.new.Goals as goal

pub loop-row-preserved : goal.loop-row-preserved
loop-row-preserved c =
    let ys : List (List ℤ) = c.loop-row.row-items in
    let i = c.loop-row.row-index in
    let l : i < length c.args.sheet = search rules in
    ap (λ (z : List ℤ). set ys i z) c.clamped.ensures
    ∙ map_next (map nearest) c.args.sheet ys i [] l c.loop-row.invariant

pub invariant_of-result : goal.invariant_of-result
invariant_of-result c =
    let l : length c.args.sheet ≤ c.loop-row.row-index = search rules in
    let e = c.loop-row.invariant ∙ map_all (map nearest) c.args.sheet c.loop-row.row-index l in
    record { moderate = λ s k. rw e (rows_near c.args.sheet s k) }

pub returns : goal.returns
returns c =
    let l : length c.args.sheet ≤ c.loop-row.row-index = search rules in
    c.loop-row.invariant ∙ map_all (map nearest) c.args.sheet c.loop-row.row-index l

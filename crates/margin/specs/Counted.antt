-- Which counts a margin method may be asked about.
use Rattle.std.specs.Prelude.{Bool, not, ◌&&◌, [], ◌∷◌, Ok, Err, Result, nat_le}
use Rattle.std.specs.List.{list_all}
use Rattle.rules.specs.declared.refusal.Refusal.{Refusal}
use Rattle.rules.specs.declared.refusal.Refusal.TheVariants.{OutOfRange}
use Rattle.rules.specs.declared.row.Lots.{Lots}
use Rattle.rules.specs.declared.row.Counts.{Counts}
use Rattle.rules.specs.Sizes.{most_count}
use Rattle.rules.specs.Refusals.{answered}
use Rattle.margin.specs.declared.counts.BoundedCounts.{BoundedCounts}

-- whether neither count of a contract passes the limit
abbrev pub countable : Lots → Bool
countable these = nat_le these.long most_count && nat_le these.short most_count

-- what the making of bounded counts answers: the same counts, or a refusal where one of them passes the limit
abbrev pub bounded_answer : Counts → Result Counts Refusal
bounded_answer counts = answered ((OutOfRange, not (list_all countable counts.each)) ∷ []) counts

-- an answer of bounded counts, read as one of plain counts
abbrev pub as_counts : Result BoundedCounts Refusal → Result Counts Refusal
as_counts (Ok bounded) = Ok bounded.counts
as_counts (Err refusal) = Err refusal

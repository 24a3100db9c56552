-- Margin by rates: a sheet has yen of margin for a lot, contract by contract. A method counts the lots of a contract in
-- its own way, and asks the rate for each.
use Rattle.std.specs.Prelude.{◌≡◌, ℕ, ◌+◌, ◌-◌, ◌*◌, ◌≤◌, min, List, map, slice_index}
use Rattle.rules.specs.declared.row.Counts.{Counts}
use Rattle.rules.specs.Sizes.{contracts, sum}
use Rattle.rules.specs.States.{lots_of}

-- the highest rate
abbrev pub most_rate : ℕ
most_rate = 10000000

-- no rate above the highest
abbrev pub Fair : List ℕ → Type 0
Fair rates = (k : ℕ) → slice_index rates k ≤ most_rate

-- a sheet with the highest rate in place of each entry above it
abbrev pub clamped : List ℕ → List ℕ
clamped sheet = map (min most_rate) sheet

-- What every way to count the lots of a contract keeps to: none of none, and no more than all.
pub record Counting (lots : ℕ → ℕ → ℕ) : Type 0 where
  pub none : lots 0 0 ≡ 0
  pub few : (long short : ℕ) → lots long short ≤ long + short

-- what contract k asks, and all contracts together, by a way to count lots
abbrev pub asked_at : (lots : ℕ → ℕ → ℕ) (rates : List ℕ) → Counts → ℕ → ℕ
asked_at lots rates counts k = lots (lots_of counts k).long (lots_of counts k).short * slice_index rates k

unfoldable pub asked : (lots : ℕ → ℕ → ℕ) (rates : List ℕ) → Counts → ℕ
asked lots rates counts = sum contracts (asked_at lots rates counts)

-- Net margin sets long and short lots off against each other: how far the two counts lie apart.
abbrev pub set_off : ℕ → ℕ → ℕ
set_off long short = (long - short) + (short - long)

abbrev pub net_amount : (rates : List ℕ) → Counts → ℕ
net_amount = asked set_off

-- Gross margin counts long and short lots alike.
abbrev pub gross_amount : (rates : List ℕ) → Counts → ℕ
gross_amount = asked ◌+◌

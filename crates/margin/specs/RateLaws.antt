-- Margin by rates keeps the two laws of a margin method.
use Rattle.std.specs.Prelude.{◌≡◌, ℕ, ◌+◌, ◌<◌, ◌≤◌, List, slice_index, refl}
use Rattle.std.proofs.Common.{mul-le-mul, zero-mul, arith}
use Rattle.rules.specs.declared.row.Counts.{Counts}
use Rattle.rules.specs.Sizes.{contracts}
use Rattle.rules.specs.States.{Countable, LawfulMethod, lots_of, flat}
use Rattle.rules.proofs.Same.{none_flat}
use Rattle.rules.proofs.Sums.{sum_zero, sum_most}
use Rattle.margin.specs.Rates.{Fair, Counting, asked_at, asked, set_off}

pub setting_off : Counting set_off
setting_off = record { none = refl; few = λ long short. omega arith }

pub adding : Counting ◌+◌
adding = record { none = refl; few = λ long short. omega arith }

-- the most that one contract can ask
abbrev pub most_asked : ℕ
most_asked = 20000000000000

module _ (lots : ℕ → ℕ → ℕ) (way : Counting lots) (rates : List ℕ) where
  pub asked_at_most : Fair rates → (counts : Counts) → Countable counts → (k : ℕ) → k < contracts → asked_at lots rates counts k ≤ most_asked
  asked_at_most fair counts few k h =
      let long = (lots_of counts k).long in
      let short = (lots_of counts k).short in
      let a : lots long short ≤ 2000000 = omega (arith, (few k h).0, (few k h).1, way.few long short) in
      mul-le-mul a (fair k)

  flat_at : (k : ℕ) → k < contracts → asked_at lots rates flat k ≡ 0
  flat_at k h = rw (none_flat k, way.none, zero-mul (slice_index rates k))

  pub asked_lawful : Fair rates → LawfulMethod (asked lots rates)
  unfolding asked
  asked_lawful fair = record {
    none_when_flat = sum_zero contracts (asked_at lots rates flat) flat_at;
    bounded = λ counts few. omega (arith, sum_most contracts most_asked (asked_at lots rates counts) (asked_at_most fair counts few));
  }

-- The split custodian: two custodians as one, the first for the boxes of asset 0, which is yen, the second for all
-- others. Boxes keep their numbers on both sides.
use Rattle.std.specs.Prelude.{ℕ, ◌%◌, Bool, cond, ◌==◌}
use Rattle.rules.specs.Sizes.{assets}
use Rattle.custody.specs.Boxes.{Boxes}

-- a box of yen, by its number
abbrev pub of_yen : ℕ → Bool
of_yen b = b % assets == 0

abbrev pub split : (first second : Boxes) → Boxes
split first second = record {
  limit = λ b. cond (of_yen b) (first.limit b) (second.limit b);
  held = λ b. cond (of_yen b) (first.held b) (second.held b);
}

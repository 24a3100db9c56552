-- What a custodian means: for every box number, how many units the box may hold and how many it holds.
use Rattle.std.specs.Prelude.{◌≡◌, ℕ, ◌≤◌}
use Rattle.rules.specs.Sizes.{boxes as box_count, most_units}

pub record Boxes : Type 0 where
  pub limit : ℕ → ℕ
  pub held : ℕ → ℕ

-- what is true of every custodian at any time
pub record Lawful {S : Type 0} (boxes : S → Boxes) : Type 0 where
  pub bounded : (s : S) (b : ℕ) → (boxes s).limit b ≤ most_units
  pub none_beyond : (s : S) (b : ℕ) → box_count ≤ b → (boxes s).limit b ≡ 0
  pub within : (s : S) (b : ℕ) → (boxes s).held b ≤ (boxes s).limit b

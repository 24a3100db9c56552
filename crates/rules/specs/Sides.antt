-- The sides of a seizure by name. On side 0 a customer account pays for itself, on side 1 the pool of a participant for
-- any of its accounts.
use Rattle.std.specs.Prelude.{ℕ}
use Rattle.rules.specs.declared.seizure.Side.{Side}
use Rattle.rules.specs.declared.seizure.Side.TheVariants.{Itself, Pool}

-- the number by which orders know a side
abbrev pub side_number : Side → ℕ
side_number Itself = 0
side_number Pool = 1

abbrev pub sides : ℕ
sides = 2

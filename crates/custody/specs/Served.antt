-- Custodians over memory that the caller lends: which boxes a memory serves.
use Rattle.std.specs.Prelude.{ℕ, min, cond, nat_lt}
use Rattle.rules.specs.Sizes.{boxes as box_count, most_units}

-- how many boxes a memory with whole room for so many serves
abbrev pub served : ℕ → ℕ
served room = min room box_count

-- a box that is served may hold as much as any box can; every other has no room at all
abbrev pub limit_of : (room b : ℕ) → ℕ
limit_of room b = cond (nat_lt b (served room)) most_units 0

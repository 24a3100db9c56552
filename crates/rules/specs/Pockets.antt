-- The pockets of an account by name: direct margin, which the customer placed with the clearing house itself, and
-- replacement margin, which the participant placed for the customer.
use Rattle.std.specs.Prelude.{ℕ}
use Rattle.rules.specs.declared.pocket.Pocket.{Pocket}
use Rattle.rules.specs.declared.pocket.Pocket.TheVariants.{Direct, Replacement}

-- the number by which orders and boxes know a pocket
abbrev pub pocket_number : Pocket → ℕ
pocket_number Direct = 0
pocket_number Replacement = 1

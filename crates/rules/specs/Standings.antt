-- The standings of a participant, and how a default leads from one to the next: active, suspended, settled, and no way
-- back.
use Rattle.std.specs.Prelude.{Bool, true, false, cond, Ok, Err, Result}
use Rattle.rules.specs.declared.refusal.Refusal.{Refusal}
use Rattle.rules.specs.declared.refusal.Refusal.TheVariants.{WrongStanding}
use Rattle.rules.specs.declared.standing.DefaultEvent.{DefaultEvent}
use Rattle.rules.specs.declared.standing.DefaultEvent.TheVariants.{Suspend, Settle}
use Rattle.rules.specs.declared.standing.Standing.{Standing}
use Rattle.rules.specs.declared.standing.Standing.TheVariants.{Active, Suspended, Settled}

abbrev pub is_active : Standing → Bool
is_active Active = true
is_active Suspended = false
is_active Settled = false

abbrev pub is_suspended : Standing → Bool
is_suspended Active = false
is_suspended Suspended = true
is_suspended Settled = false

abbrev pub is_settled : Standing → Bool
is_settled Active = false
is_settled Suspended = false
is_settled Settled = true

-- standing and event decide together
abbrev pub next_standing : Standing → DefaultEvent → Result Standing Refusal
next_standing standing Suspend = cond (is_active standing) (Ok Suspended) (Err WrongStanding)
next_standing standing Settle = cond (is_suspended standing) (Ok Settled) (Err WrongStanding)

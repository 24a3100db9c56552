-- What the calls that change a custodian do to its boxes, from `before` to `after`. No call changes a limit.
use Rattle.std.specs.Prelude.{◌≡◌, ℕ, ◌+◌, ◌-◌, Bool, cond, Ok, Err, Result, ◌==◌, nat_lt}
use Rattle.custody.specs.declared.custodian.PutRefusal.{PutRefusal}
use Rattle.custody.specs.declared.custodian.PutRefusal.TheVariants.{OverLimit}
use Rattle.custody.specs.declared.custodian.TakeRefusal.{TakeRefusal}
use Rattle.custody.specs.declared.custodian.TakeRefusal.TheVariants.{TooFewUnits}
use Rattle.custody.specs.Boxes.{Boxes}

-- clear: every box is empty
pub record Cleared (before after : Boxes) : Type 0 where
  pub fixed : (k : ℕ) → after.limit k ≡ before.limit k
  pub empty : (k : ℕ) → after.held k ≡ 0

-- the holding and the units together pass the limit: the true sum, however large the units
abbrev pub passes_limit : Boxes → (b units : ℕ) → Bool
passes_limit before b units = nat_lt (before.limit b) (before.held b + units)

-- the units pass the holding
abbrev pub passes_holding : Boxes → (b units : ℕ) → Bool
passes_holding before b units = nat_lt (before.held b) units

-- put: units more in box b and no other box changed; refused exactly where the limit would be passed, and then
-- nothing is changed at all
pub record Put (before after : Boxes) (b units : ℕ) (r : Result (Unit {0}) PutRefusal) : Type 0 where
  pub fixed : (k : ℕ) → after.limit k ≡ before.limit k
  pub answer : r ≡ cond (passes_limit before b units) (Err OverLimit) (Ok tt)
  pub holds : (k : ℕ) → after.held k ≡ cond (k == b) (cond (passes_limit before b units) (before.held b) (before.held b + units)) (before.held k)

-- take: units fewer in box b and no other box changed; refused exactly where the box holds fewer, and then nothing is
-- changed at all
pub record Take (before after : Boxes) (b units : ℕ) (r : Result (Unit {0}) TakeRefusal) : Type 0 where
  pub fixed : (k : ℕ) → after.limit k ≡ before.limit k
  pub answer : r ≡ cond (passes_holding before b units) (Err TooFewUnits) (Ok tt)
  pub holds : (k : ℕ) → after.held k ≡ cond (k == b) (cond (passes_holding before b units) (before.held b) (before.held b - units)) (before.held k)

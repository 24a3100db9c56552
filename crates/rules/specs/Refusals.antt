-- Why an order, a question or a file is refused, the number of each refusal, and how one is chosen of several.
use Rattle.std.specs.Prelude.{◌≡◌, ℕ, ◌≤◌, Bool, cond, List, [], ◌∷◌, Ok, Err, Result}
use Rattle.rules.specs.declared.refusal.Refusal.{Refusal}
use Rattle.rules.specs.declared.refusal.Refusal.TheVariants.{FileTooLong, UnknownKind, BodyCutShort, AnswerListTooShort, WrongAccount, WrongParticipant, WrongPocket, WrongAsset, OutOfRange, WrongStanding, OverLimit, TooFewUnits, BelowMaintenance, BeyondEntitlement, OpenPositions}

-- the number by which a refusal is told; 0 is kept for accepted
abbrev pub number : Refusal → ℕ
number FileTooLong = 1
number UnknownKind = 2
number BodyCutShort = 3
number AnswerListTooShort = 4
number WrongAccount = 5
number WrongParticipant = 6
number WrongPocket = 7
number WrongAsset = 8
number OutOfRange = 9
number WrongStanding = 10
number OverLimit = 11
number TooFewUnits = 12
number BelowMaintenance = 13
number BeyondEntitlement = 14
number OpenPositions = 15

-- what an order is answered: accepted, or a refusal
abbrev pub Outcome : Type 0
Outcome = Result (Unit {0}) Refusal

abbrev pub outcome_number : Outcome → ℕ
outcome_number (Ok _) = 0
outcome_number (Err refusal) = number refusal

-- What a number names among some things that are numbered from 0: the one that has it, and a refusal where none has.
abbrev pub Named : {X : Type 0} → (number_of : X → ℕ) → (count : ℕ) → (why : Refusal) → (number : ℕ) → Result X Refusal → Type 0
Named number_of count why number (Ok x) = number_of x ≡ number
Named number_of count why number (Err refusal) = (refusal ≡ why) × (count ≤ number)

-- A call tries its refusals in a fixed order, each with the test under which it holds. The first that holds is
-- answered; its place in the list decides, never its number. Where none holds, the value stands.
abbrev pub answered : {X : Type 0} → List (Refusal × Bool) → X → Result X Refusal
answered [] value = Ok value
answered (test ∷ tests) value = cond test.1 (Err test.0) (answered tests value)

-- The same for an order, which leaves a state too: refused, the old one, and accepted, the new one.
abbrev pub decided : {S : Type 0} → S → List (Refusal × Bool) → S → Outcome × S
decided old [] new = (Ok tt, new)
decided old (test ∷ tests) new = cond test.1 (Err test.0, old) (decided old tests new)

-- An accepted order passed each of its tests.
use Rattle.std.proofs.Common.{◌≡◌, ◌<◌, Bool, true, false, cond, List, [], ◌∷◌, Err, refl, arith}
use Rattle.rules.specs.declared.refusal.Refusal.{Refusal}
use Rattle.rules.specs.declared.refusal.Refusal.TheVariants.{FileTooLong, UnknownKind, BodyCutShort, AnswerListTooShort, WrongAccount, WrongParticipant, WrongPocket, WrongAsset, OutOfRange, WrongStanding, OverLimit, TooFewUnits, BelowMaintenance, BeyondEntitlement, OpenPositions}
use Rattle.rules.specs.Refusals.{decided, number, outcome_number}
use Rattle.rules.specs.States.{State, Terms}
use Rattle.rules.specs.Orders.{Order, after, answer, effect, tests}

abbrev pub Passed : List (Refusal × Bool) → Type 0
Passed [] = Unit
Passed (g ∷ gs) = (g.1 ≡ false) × Passed gs

positive : (g : Refusal) → 0 < number g
positive FileTooLong = omega arith
positive UnknownKind = omega arith
positive BodyCutShort = omega arith
positive AnswerListTooShort = omega arith
positive WrongAccount = omega arith
positive WrongParticipant = omega arith
positive WrongPocket = omega arith
positive WrongAsset = omega arith
positive OutOfRange = omega arith
positive WrongStanding = omega arith
positive OverLimit = omega arith
positive TooFewUnits = omega arith
positive BelowMaintenance = omega arith
positive BeyondEntitlement = omega arith
positive OpenPositions = omega arith

module _ (s t : State) where
  passes : (gs : List (Refusal × Bool)) → outcome_number (decided s gs t).0 ≡ 0 → Passed gs
  passes [] e = tt
  passes (g ∷ gs) e = go g.1 g.0 e (λ f. passes gs f)
    where
      go : (b : Bool) (k : Refusal) → outcome_number (cond b (Err k, s) (decided s gs t)).0 ≡ 0 → (outcome_number (decided s gs t).0 ≡ 0 → Passed gs) → (b ≡ false) × Passed gs
      go true k e r = absurd (omega (arith, positive k))
      go false k e r = (refl, r e)

  moved : (gs : List (Refusal × Bool)) → outcome_number (decided s gs t).0 ≡ 0 → (decided s gs t).1 ≡ t
  moved [] e = refl
  moved (g ∷ gs) e = go g.1 g.0 e (λ f. moved gs f)
    where
      go : (b : Bool) (k : Refusal) → outcome_number (cond b (Err k, s) (decided s gs t)).0 ≡ 0 → (outcome_number (decided s gs t).0 ≡ 0 → (decided s gs t).1 ≡ t) → (cond b (Err k, s) (decided s gs t)).1 ≡ t
      go true k e r = absurd (omega (arith, positive k))
      go false k e r = r e

  stayed : (gs : List (Refusal × Bool)) → (outcome_number (decided s gs t).0 ≡ 0 → ⊥) → (decided s gs t).1 ≡ s
  stayed [] q = absurd (q refl)
  stayed (g ∷ gs) q = go g.1 g.0 q (λ f. stayed gs f)
    where
      go : (b : Bool) (k : Refusal) → (outcome_number (cond b (Err k, s) (decided s gs t)).0 ≡ 0 → ⊥) → ((outcome_number (decided s gs t).0 ≡ 0 → ⊥) → (decided s gs t).1 ≡ s) → (cond b (Err k, s) (decided s gs t)).1 ≡ s
      go true k q r = refl
      go false k q r = r q

pub passed : (T : Terms) (s : State) (o : Order) → answer T s o ≡ 0 → Passed (tests T s o)
unfolding answer
passed T s o e = passes s (effect s o) (tests T s o) e

pub done : (T : Terms) (s : State) (o : Order) → answer T s o ≡ 0 → after T s o ≡ effect s o
unfolding answer after
done T s o e = moved s (effect s o) (tests T s o) e

pub undone : (T : Terms) (s : State) (o : Order) → (answer T s o ≡ 0 → ⊥) → after T s o ≡ s
unfolding answer after
undone T s o q = stayed s (effect s o) (tests T s o) q

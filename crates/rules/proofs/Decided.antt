-- What a list of tests decides of an order, from what the tests alone answer, with any value for accepted.
use Rattle.std.proofs.Common.{◌≡◌, ℕ, Bool, true, false, cond, List, [], ◌∷◌, Ok, Err, Result, refl, ap, arith}
use Rattle.rules.specs.declared.refusal.Refusal.{Refusal}
use Rattle.rules.specs.Refusals.{Outcome, answered, decided}
use Rattle.rules.proofs.Passed.{Passed}

module _ {X S : Type 0} (value : X) (old new : S) where
  pub decided_refused : (gs : List (Refusal × Bool)) (r : Refusal) → answered gs value ≡ Err r → decided old gs new ≡ (Err r, old)
  decided_refused [] r e = let z : ◌≡◌ {A = ℕ} 0 1 = cc in absurd (omega arith)
  decided_refused (g ∷ gs) r e = go g.1 g.0 e (decided_refused gs r)
    where
      go : (b : Bool) (k : Refusal) → ◌≡◌ {A = Result X Refusal} (cond b (Err k) (answered gs value)) (Err r) →
          (answered gs value ≡ Err r → decided old gs new ≡ (Err r, old)) → ◌≡◌ {A = Outcome × S} (cond b (Err k, old) (decided old gs new)) (Err r, old)
      go true k e f = let same : k ≡ r = cc in ap (λ (q : Refusal). (Err q, old)) same
      go false k e f = f e

  pub decided_accepted : (gs : List (Refusal × Bool)) (v : X) → answered gs value ≡ Ok v → decided old gs new ≡ (Ok tt, new)
  decided_accepted [] v e = refl
  decided_accepted (g ∷ gs) v e = go g.1 g.0 e (decided_accepted gs v)
    where
      go : (b : Bool) (k : Refusal) → ◌≡◌ {A = Result X Refusal} (cond b (Err k) (answered gs value)) (Ok v) →
          (answered gs value ≡ Ok v → decided old gs new ≡ (Ok tt, new)) → ◌≡◌ {A = Outcome × S} (cond b (Err k, old) (decided old gs new)) (Ok tt, new)
      go true k e f = let z : ◌≡◌ {A = ℕ} 0 1 = cc in absurd (omega arith)
      go false k e f = f e

-- accepted: the value is the one that stands, and every test was passed
module _ {X : Type 0} (value v : X) where
  pub answered_value : (gs : List (Refusal × Bool)) → answered gs value ≡ Ok v → v ≡ value
  answered_value [] e = cc
  answered_value (g ∷ gs) e = go g.1 g.0 e (answered_value gs)
    where
      go : (b : Bool) (k : Refusal) → ◌≡◌ {A = Result X Refusal} (cond b (Err k) (answered gs value)) (Ok v) → (answered gs value ≡ Ok v → v ≡ value) → v ≡ value
      go true k e f = let z : ◌≡◌ {A = ℕ} 0 1 = cc in absurd (omega arith)
      go false k e f = f e

  pub answered_passed : (gs : List (Refusal × Bool)) → answered gs value ≡ Ok v → Passed gs
  answered_passed [] e = tt
  answered_passed (g ∷ gs) e = go g.1 g.0 e (answered_passed gs)
    where
      go : (b : Bool) (k : Refusal) → ◌≡◌ {A = Result X Refusal} (cond b (Err k) (answered gs value)) (Ok v) → (answered gs value ≡ Ok v → Passed gs) → (b ≡ false) × Passed gs
      go true k e f = let z : ◌≡◌ {A = ℕ} 0 1 = cc in absurd (omega arith)
      go false k e f = (refl, f e)

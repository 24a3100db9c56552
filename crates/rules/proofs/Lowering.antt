-- From what moved at the accounts to the answers.
use Rattle.std.proofs.Common.{◌≡◌, ℕ, ◌+◌, ◌<◌, Bool, true, false, cond, not, ◌&&◌, ◌||◌, ltb, ◌⊎◌, Some, None, Err, Option, sym, refl, ap, ◌∙◌, ap₂, inl, inr, add-zero, arith}
use Rattle.std.proofs.lemmas.Bool.{lt-ltb, cases_eq, eq-eqb, ne_eqb, ltb-true, and_parts, cond-true}
use Rattle.rules.specs.declared.refusal.Refusal.TheVariants.{WrongAccount, WrongParticipant}
use Rattle.rules.proofs.Balance.{told}
use Rattle.rules.proofs.Moves.{Moved, Sums, sums_here, sums_apart, part_still}
use Rattle.rules.specs.Sizes.{accounts, house, participants}
use Rattle.rules.specs.States.{State, is, known, owner_number, participant_of, some?, under}
use Rattle.rules.specs.Figures.{ask_customer, claim, first_amount, from_customer, participant_claim, retained, second_amount, withheld}
use Rattle.rules.specs.Law.{Figure, customer's_claim, figure, participant's_claim, sum_retained}

-- one figure lower by v, and no other moved
pub record LowerBy (f : Figure) (v : ℕ) (before now : State) : Type 0 where
  pub by_exactly : figure now f + v ≡ figure before f
  pub no_other : (g : Figure) → (g ≡ f → ⊥) → figure now g ≡ figure before g

is_own : (o : Option ℕ) → some? o ≡ true → is o (owner_number o) ≡ true
is_own (Some q) e = eq-eqb q q refl
is_own None e = e

is_other : (o : Option ℕ) (p : ℕ) → (p ≡ owner_number o → ⊥) → is o p ≡ false
is_other (Some q) p h = ne_eqb q p (λ e. h (sym e))
is_other None p h = refl

-- the customer question, by the claim of a customer account
asked_customer : (s : State) (c : ℕ) → first_amount (ask_customer s c) ≡ cond (known s c) (from_customer (claim s) c) 0
unfolding from_customer
asked_customer s c = go (house c) (known s c)
  where
    go : (h k : Bool) → first_amount (cond (h || not k) (Err WrongAccount) (told (claim s c) (withheld s c))) ≡ cond k (cond h 0 (claim s c)) 0
    go true true = refl
    go true false = refl
    go false true = refl
    go false false = refl

module _ (s s' : State) (o : s'.opened ≡ s.opened) where
  customer_still : (c : ℕ) → from_customer (claim s') c ≡ from_customer (claim s) c → figure s' (customer's_claim c) ≡ figure s (customer's_claim c)
  customer_still c e =
      asked_customer s' c ∙
      ap₂ (λ (u : ℕ → Option ℕ) (n : ℕ). cond (ltb c accounts && some? (under u c)) n 0) o e ∙
      sym (asked_customer s c)

  customer_lower : (c v : ℕ) → known s c ≡ true → from_customer (claim s') c + v ≡ from_customer (claim s) c → figure s' (customer's_claim c) + v ≡ figure s (customer's_claim c)
  customer_lower c v k e =
      let k' : known s' c ≡ true = ap (λ (u : ℕ → Option ℕ). ltb c accounts && some? (under u c)) o ∙ k in
      let x = asked_customer s c ∙ cond-true (known s c) (from_customer (claim s) c) 0 k in
      let y = asked_customer s' c ∙ cond-true (known s' c) (from_customer (claim s') c) 0 k' in
      omega arith

part_answered : (s : State) (p : ℕ) → p < participants → (figure s (participant's_claim p) ≡ participant_claim s p) × (figure s (sum_retained p) ≡ retained s p)
part_answered s p h = let e = lt-ltb p participants h in (rw e refl, rw e refl)

part_figures : (s s' : State) (p : ℕ) → (participant_claim s' p ≡ participant_claim s p) × (retained s' p ≡ retained s p) → (figure s' (participant's_claim p) ≡ figure s (participant's_claim p)) × (figure s' (sum_retained p) ≡ figure s (sum_retained p))
part_figures s s' p e =
    let same = ap₂ (λ (x y : ℕ). cond (not (ltb p participants)) (Err WrongParticipant) (told x y)) e.0 e.1 in
    (ap first_amount same, ap second_amount same)

module _ (s s' : State) (a b cv pv rv kv : ℕ) (m : Moved s s' a b cv pv rv kv) where
  others_still : (p : ℕ) → (p ≡ participant_of s a → ⊥) → (p ≡ participant_of s b → ⊥) → (figure s' (participant's_claim p) ≡ figure s (participant's_claim p)) × (figure s' (sum_retained p) ≡ figure s (sum_retained p))
  others_still p ha hb =
      part_figures s s' p (part_still s s' p (sums_apart s s' a b cv pv rv kv m p (is_other _ p ha) (is_other _ p hb)))

  pub own_sums : known s a ≡ true → known s b ≡ true → participant_of s b ≡ participant_of s a → Sums s s' (participant_of s a) pv rv kv
  own_sums ka kb w =
      let ka' = and_parts (ltb a accounts) (some? (under s.opened a)) ka in
      let kb' = and_parts (ltb b accounts) (some? (under s.opened b)) kb in
      sums_here s s' a b cv pv rv kv m (participant_of s a) (ltb-true a accounts ka'.0) (ltb-true b accounts kb'.0) (is_own _ ka'.1) (rw w at (is_own (under s.opened b) kb'.1))

-- a withdrawal of the customer's
pub lowered_customer : (s s' : State) (a v : ℕ) → known s a ≡ true → Moved s s' a a v 0 0 0 → LowerBy (customer's_claim a) v s s'
lowered_customer s s' a v k m = record { by_exactly = customer_lower s s' m.opened a v k m.claim_by.here; no_other = other }
  where
    parts : (p : ℕ) → (p ≡ participant_of s a) ⊎ (p ≡ participant_of s a → ⊥) → (figure s' (participant's_claim p) ≡ figure s (participant's_claim p)) × (figure s' (sum_retained p) ≡ figure s (sum_retained p))
    parts p (inl e) = rw e (part_figures s s' (participant_of s a) (part_still s s' (participant_of s a) (own_sums s s' a a v 0 0 0 m k k refl)))
    parts p (inr q) = others_still s s' a a v 0 0 0 m p q q

    other : (g : Figure) → (g ≡ customer's_claim a → ⊥) → figure s' g ≡ figure s g
    other (customer's_claim c) q = customer_still s s' m.opened c (m.claim_by.there c (λ e. q (ap customer's_claim e)))
    other (participant's_claim p) q = (parts p (cases_eq p (participant_of s a))).0
    other (sum_retained p) q = (parts p (cases_eq p (participant_of s a))).1

-- no customer's claim moves
customers_still : (s s' : State) (a b pv rv kv : ℕ) → Moved s s' a b 0 pv rv kv → (c : ℕ) → figure s' (customer's_claim c) ≡ figure s (customer's_claim c)
customers_still s s' a b pv rv kv m c = customer_still s s' m.opened c (go (cases_eq c a))
  where
    go : (c ≡ a) ⊎ (c ≡ a → ⊥) → from_customer (claim s') c ≡ from_customer (claim s) c
    go (inl e) = rw e (sym (add-zero _) ∙ m.claim_by.here)
    go (inr q) = m.claim_by.there c q

-- one figure of the participant of a and b moves
module _ (s s' : State) (a b pv rv kv v : ℕ) (m : Moved s s' a b 0 pv rv kv) (w : participant_of s b ≡ participant_of s a) (h : participant_of s a < participants) where
  away : (p : ℕ) → (p ≡ participant_of s a → ⊥) → (figure s' (participant's_claim p) ≡ figure s (participant's_claim p)) × (figure s' (sum_retained p) ≡ figure s (sum_retained p))
  away p q = others_still s s' a b 0 pv rv kv m p q (λ e. q (e ∙ w))

  pub lowered_participant : (participant_claim s' (participant_of s a) + v ≡ participant_claim s (participant_of s a)) × (retained s' (participant_of s a) ≡ retained s (participant_of s a)) → LowerBy (participant's_claim (participant_of s a)) v s s'
  lowered_participant e = record { by_exactly = let x = part_answered s (participant_of s a) h in let y = part_answered s' (participant_of s a) h in omega arith; no_other = other }
    where
      retaineds : (p : ℕ) → (p ≡ participant_of s a) ⊎ (p ≡ participant_of s a → ⊥) → figure s' (sum_retained p) ≡ figure s (sum_retained p)
      retaineds p (inl q) = rw q ((part_answered s' (participant_of s a) h).1 ∙ e.1 ∙ sym (part_answered s (participant_of s a) h).1)
      retaineds p (inr q) = (away p q).1

      other : (g : Figure) → (g ≡ participant's_claim (participant_of s a) → ⊥) → figure s' g ≡ figure s g
      other (customer's_claim c) q = customers_still s s' a b pv rv kv m c
      other (participant's_claim p) q = (away p (λ x. q (ap participant's_claim x))).0
      other (sum_retained p) q = retaineds p (cases_eq p (participant_of s a))

  pub lowered_retained : (participant_claim s' (participant_of s a) ≡ participant_claim s (participant_of s a)) × (retained s' (participant_of s a) + v ≡ retained s (participant_of s a)) → LowerBy (sum_retained (participant_of s a)) v s s'
  lowered_retained e = record { by_exactly = let x = part_answered s (participant_of s a) h in let y = part_answered s' (participant_of s a) h in omega arith; no_other = other }
    where
      claims : (p : ℕ) → (p ≡ participant_of s a) ⊎ (p ≡ participant_of s a → ⊥) → figure s' (participant's_claim p) ≡ figure s (participant's_claim p)
      claims p (inl q) = rw q ((part_answered s' (participant_of s a) h).0 ∙ e.0 ∙ sym (part_answered s (participant_of s a) h).0)
      claims p (inr q) = (away p q).0

      other : (g : Figure) → (g ≡ sum_retained (participant_of s a) → ⊥) → figure s' g ≡ figure s g
      other (customer's_claim c) q = customers_still s s' a b pv rv kv m c
      other (participant's_claim p) q = claims p (cases_eq p (participant_of s a))
      other (sum_retained p) q = (away p (λ x. q (ap sum_retained x))).1

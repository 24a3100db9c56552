-- What a withdrawal or a seizure does to the tiers of one account.
use Rattle.std.proofs.Common.{◌≡◌, ℕ, ◌+◌, ◌≤◌, Bool, true, false, sym, refl, ◌∙◌, add-zero, arith}
use Rattle.rules.proofs.Moves.{At}
use Rattle.rules.specs.Sizes.{house}
use Rattle.rules.specs.Claims.{lesser, remainder}
use Rattle.rules.specs.States.{State}
use Rattle.rules.specs.Figures.{claim, direct, excess, from_customer, kept, own_pool, passed_on, pooled, replacement, rest, withheld}

-- one tier: a quantity x with a bound y, in two states. The lesser is lower by l and the remainder by r
abbrev pub Tier : ℕ → ℕ → ℕ → ℕ → ℕ → ℕ → Type 0
Tier x x' y y' l r = (lesser x' y' + l ≡ lesser x y) × (remainder x' y' + r ≡ remainder x y)

module _ (x x' y y' v : ℕ) where
  pub tier_same : x' + 0 ≡ x → y' + 0 ≡ y → Tier x x' y y' 0 0
  tier_same p q = (omega arith, omega arith)

  -- v comes out of the remainder
  pub tier_over : x' + v ≡ x → y' + 0 ≡ y → lesser x y ≤ x' → Tier x x' y y' 0 v
  tier_over p q h = (omega arith, omega arith)

  -- v comes out of the lesser
  pub tier_under : x' + v ≡ x → y' + v ≡ y → v ≤ lesser x y → Tier x x' y y' v 0
  tier_under p q h = (omega arith, omega arith)

  -- v comes out of what the bound has to spare
  pub tier_spare : x' + 0 ≡ x → y' + v ≡ y → v ≤ remainder y x → Tier x x' y y' 0 0
  tier_spare p q h = (omega arith, omega arith)

-- the five numbers of an account, before and after
pub record Inputs (s s' : State) (c dv rv mv bv uv : ℕ) : Type 0 where
  pub direct_in : direct s' c + dv ≡ direct s c
  pub replaced_in : replacement s' c + rv ≡ replacement s c
  pub margin_in : (s'.rows c).declared.customer_margin + mv ≡ (s.rows c).declared.customer_margin
  pub debt_in : (s'.rows c).declared.customer_debt + bv ≡ (s.rows c).declared.customer_debt
  pub due_in : (s'.rows c).declared.participant_debt + uv ≡ (s.rows c).declared.participant_debt

module _ (s s' : State) (c : ℕ) where
  own_by : (dv l e o : ℕ) → dv + l ≡ o → direct s' c + dv ≡ direct s c → Tier (replacement s c) (replacement s' c) (s.rows c).declared.customer_margin (s'.rows c).declared.customer_margin l e → own_pool s' c + o ≡ own_pool s c
  unfolding own_pool
  own_by dv l e o q d t = let z = t.0 in omega arith

  at_customer : house c ≡ false → (e cl re k : ℕ) →
      excess s' c + e ≡ excess s c → claim s' c + cl ≡ claim s c →
      remainder (s'.rows c).declared.participant_debt (withheld s' c) + re ≡ remainder (s.rows c).declared.participant_debt (withheld s c) →
      kept s' c + k ≡ kept s c → passed_on s' c + 0 ≡ passed_on s c → At s s' c cl e re k
  unfolding rest pooled from_customer
  at_customer h e cl re k he hc hr hk hp = record { claim_at = rw h hc; pooled_at = rw h he; rest_at = rw h hr; kept_at = rw h hk; passed_at = rw h (sym (add-zero (passed_on s' c)) ∙ hp) }

  pub at_house : house c ≡ true → (v u : ℕ) → direct s' c + v ≡ direct s c → (s'.rows c).declared.participant_debt + u ≡ (s.rows c).declared.participant_debt → At s s' c 0 v u 0
  unfolding rest pooled from_customer
  at_house h v u d i = record { claim_at = rw h refl; pooled_at = rw h d; rest_at = rw h i; kept_at = rw h refl; passed_at = rw h refl }

  module _ (h : house c ≡ false) where
    -- v leaves pocket 0
    pub at_direct : (v : ℕ) → Inputs s s' c v 0 0 0 0 → withheld s c ≤ own_pool s' c → At s s' c v 0 0 0
    unfolding excess claim kept passed_on withheld
    at_direct v i g =
        let t1 = tier_same _ _ _ _ 0 i.replaced_in i.margin_in in
        let t2 = tier_over _ _ _ _ v (own_by v 0 0 v (add-zero v) i.direct_in t1) i.debt_in g in
        let t3 = tier_same _ _ _ _ 0 t2.0 i.due_in in
        let t4 = tier_same _ _ _ _ 0 i.due_in t2.0 in
        at_customer h 0 v 0 0 t1.1 t2.1 t4.1 t3.0 t3.1

    -- e leaves pocket 1, all of it excess, and the participant's debt falls by u, all of it rest
    pub at_pays : (e u : ℕ) → Inputs s s' c 0 e 0 0 u → lesser (replacement s c) (s.rows c).declared.customer_margin ≤ replacement s' c → u ≤ remainder (s.rows c).declared.participant_debt (withheld s c) → At s s' c 0 e u 0
    unfolding excess claim kept passed_on withheld
    at_pays e u i g g' =
        let t1 = tier_over _ _ _ _ e i.replaced_in i.margin_in g in
        let t2 = tier_same _ _ _ _ 0 (own_by 0 0 e 0 refl i.direct_in t1) i.debt_in in
        let t3 = tier_spare _ _ _ _ u t2.0 i.due_in g' in
        let t4 = tier_over _ _ _ _ u i.due_in t2.0 (omega arith) in
        at_customer h e 0 u 0 t1.1 t2.1 t4.1 t3.0 t3.1

    -- v leaves pocket 0 and pays for both debts
    pub at_seized_0 : (v : ℕ) → Inputs s s' c v 0 0 v v → v ≤ kept s c → At s s' c 0 0 0 v
    unfolding excess claim kept passed_on withheld
    at_seized_0 v i g =
        let t1 = tier_same _ _ _ _ 0 i.replaced_in i.margin_in in
        let t2 = tier_under _ _ _ _ v (own_by v 0 0 v (add-zero v) i.direct_in t1) i.debt_in (omega arith) in
        let t3 = tier_under _ _ _ _ v t2.0 i.due_in g in
        at_customer h 0 0 0 v t1.1 t2.1 (omega arith) t3.0 t3.1

    -- v leaves pocket 1 and the customer margin, and pays for both debts
    pub at_seized_1 : (v : ℕ) → Inputs s s' c 0 v v v v → v ≤ kept s c → v ≤ lesser (replacement s c) (s.rows c).declared.customer_margin → At s s' c 0 0 0 v
    unfolding excess claim kept passed_on withheld
    at_seized_1 v i g g' =
        let t1 = tier_under _ _ _ _ v i.replaced_in i.margin_in g' in
        let t2 = tier_under _ _ _ _ v (own_by 0 v 0 v (omega arith) i.direct_in t1) i.debt_in (omega arith) in
        let t3 = tier_under _ _ _ _ v t2.0 i.due_in g in
        at_customer h 0 0 0 v t1.1 t2.1 (omega arith) t3.0 t3.1

-- nothing of the account changes
pub at_still : (s s' : State) (c : ℕ) → Inputs s s' c 0 0 0 0 0 → At s s' c 0 0 0 0
at_still s s' c i = go (house c) refl
  where
    go : (h : Bool) → house c ≡ h → At s s' c 0 0 0 0
    go true h = at_house s s' c h 0 0 i.direct_in i.due_in
    go false h = at_pays s s' c h 0 0 i (let z = i.replaced_in in omega arith) (omega arith)

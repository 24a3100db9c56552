-- One state's figures add up.
use Rattle.std.proofs.Common.{◌≡◌, ℕ, ◌+◌, ◌<◌, Bool, true, false, cond, not, ◌&&◌, ◌||◌, List, [], ◌∷◌, Some, None, Ok, Err, Option, refl, ◌∙◌, zero-add, arith}
use Rattle.std.proofs.lemmas.Bool.{lt-ltb}
use Rattle.rules.specs.declared.refusal.Refusal.TheVariants.{WrongAccount}
use Rattle.rules.proofs.Sums.{sum_same, sum_add}
use Rattle.rules.specs.Sizes.{accounts, house, participants}
use Rattle.rules.specs.Claims.{lesser, remainder}
use Rattle.rules.specs.States.{State, is, some?, under}
use Rattle.rules.specs.Figures.{Amounts, account_value, ask_customer, ask_participant, claim, direct, excess, first_amount, from_customer, kept, kept_from_pool, over, own_pool, participant_claim, passed_on, pool, pooled, replacement, retained, second_amount, withheld}

pub over_same : (opened : ℕ → Option ℕ) (p : ℕ) (f g : ℕ → ℕ) → ((a : ℕ) → a < accounts → is (under opened a) p ≡ true → f a ≡ g a) → over opened p f ≡ over opened p g
unfolding over
over_same opened p f g h = sum_same accounts _ _ (λ a b. go a b (is (under opened a) p) (h a b))
  where
    go : (a : ℕ) → a < accounts → (t : Bool) → (t ≡ true → f a ≡ g a) → cond t (f a) 0 ≡ cond t (g a) 0
    go a b true e = e refl
    go a b false e = refl

pub over_add : (opened : ℕ → Option ℕ) (p : ℕ) (f g : ℕ → ℕ) → over opened p (λ a. f a + g a) ≡ over opened p f + over opened p g
unfolding over
over_add opened p f g =
    sum_same accounts _ _ (λ a b. go a (is (under opened a) p)) ∙ sum_add accounts (λ a. cond (is (under opened a) p) (f a) 0) (λ a. cond (is (under opened a) p) (g a) 0)
  where
    go : (a : ℕ) (t : Bool) → cond t (f a + g a) 0 ≡ cond t (f a) 0 + cond t (g a) 0
    go a true = refl
    go a false = refl

-- TIERS OF ANY NUMBER. A pool goes down a row of debts: at each, the remainder goes to that tier's claimant, and the
-- lesser on to the next. What the claimants get and what is kept behind the last debt are the pool.
abbrev tier_claims : ℕ → List ℕ → ℕ
tier_claims pool [] = 0
tier_claims pool (debt ∷ debts) = remainder pool debt + tier_claims (lesser pool debt) debts

abbrev kept_behind : ℕ → List ℕ → ℕ
kept_behind pool [] = pool
kept_behind pool (debt ∷ debts) = kept_behind (lesser pool debt) debts

shared_out : (pool : ℕ) (debts : List ℕ) → tier_claims pool debts + kept_behind pool debts ≡ pool
shared_out pool [] = zero-add pool
shared_out pool (debt ∷ debts) = let behind = shared_out (lesser pool debt) debts in omega arith

-- an answer of two amounts
abbrev pub told : ℕ → ℕ → Amounts
told x y = Ok (x, y)

some_of_is : (o : Option ℕ) (p : ℕ) → is o p ≡ true → some? o ≡ true
some_of_is (Some q) p e = refl
some_of_is None p e = e

module _ (s : State) where
  -- the first split: both pockets are own pool and excess
  tier_1 : (a : ℕ) → direct s a + replacement s a ≡ own_pool s a + excess s a
  unfolding own_pool excess
  tier_1 a = omega arith

  -- what the tiers behind the own pool share out, by the general law
  tiers_2_3 : (a : ℕ) → claim s a + (passed_on s a + 0) + kept s a ≡ own_pool s a
  unfolding claim withheld passed_on kept
  tiers_2_3 a = shared_out (own_pool s a) ((s.rows a).declared.customer_debt ∷ (s.rows a).declared.participant_debt ∷ [])

  -- an account's value is parted among its tiers
  parted : (a : ℕ) → account_value s.price s.held a ≡ from_customer (claim s) a + from_customer (passed_on s) a + from_customer (kept s) a + pooled s a
  unfolding account_value from_customer pooled
  parted a = go (house a)
    where
      go : (h : Bool) → direct s a + cond h 0 (replacement s a) ≡ cond h 0 (claim s a) + cond h 0 (passed_on s a) + cond h 0 (kept s a) + cond h (direct s a) (excess s a)
      go true = omega arith
      go false = omega (arith, tier_1 a, tiers_2_3 a)

  -- what a customer question answers of an account under p
  asked : (p a : ℕ) → a < accounts → is (under s.opened a) p ≡ true → first_amount (ask_customer s a) ≡ from_customer (claim s) a
  unfolding from_customer
  asked p a b e = rw (lt-ltb a accounts b, some_of_is (under s.opened a) p e) (go (house a))
    where
      go : (h : Bool) → first_amount (cond (h || not (true && true)) (Err WrongAccount) (told (claim s a) (withheld s a))) ≡ cond h 0 (claim s a)
      go true = refl
      go false = refl

  pub adds_up : (p : ℕ) → p < participants →
      over s.opened p (λ a. first_amount (ask_customer s a)) + first_amount (ask_participant s p) + second_amount (ask_participant s p) ≡ over s.opened p (account_value s.price s.held)
  unfolding participant_claim retained pool kept_from_pool
  adds_up p b =
      let V = account_value s.price s.held in
      let c = from_customer (claim s) in
      let l = from_customer (passed_on s) in
      let k = from_customer (kept s) in
      let o = s.opened in
      let e1 = over_same o p V (λ a. c a + l a + k a + pooled s a) (λ a h t. parted a) in
      let e2 = over_add o p (λ a. c a + l a + k a) (pooled s) in
      let e3 = over_add o p (λ a. c a + l a) k in
      let e4 = over_add o p c l in
      let e5 = over_same o p (λ a. first_amount (ask_customer s a)) c (asked p) in
      rw (lt-ltb p participants b) (omega arith)

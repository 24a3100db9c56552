-- What a change at one or two accounts does to the figures of participants.
use Rattle.std.proofs.Common.{◌≡◌, ℕ, ◌+◌, ◌<◌, ◌≤◌, true, false, cond, eqb, ◌⊎◌, Option, sym, refl, ap, ◌∙◌, inl, inr, add-zero, arith}
use Rattle.std.proofs.lemmas.Bool.{cases_eq, both_ways, eq-eqb, ne_eqb}
use Rattle.rules.proofs.Sums.{sum_lower}
use Rattle.rules.proofs.Balance.{over_same}
use Rattle.rules.specs.Sizes.{accounts}
use Rattle.rules.specs.States.{State, is, under}
use Rattle.rules.specs.Figures.{charge, claim, from_customer, kept, kept_from_pool, over, participant_claim, passed_on, pool, pooled, rest, retained}

-- f is g, but lower by v at account a
pub record Lower (a v : ℕ) (f g : ℕ → ℕ) : Type 0 where
  pub here : f a + v ≡ g a
  pub there : (b : ℕ) → (b ≡ a → ⊥) → f b ≡ g b

pub same_lower : (a : ℕ) (f g : ℕ → ℕ) → ((b : ℕ) → f b ≡ g b) → Lower a 0 f g
same_lower a f g h = record { here = add-zero (f a) ∙ h a; there = λ b q. h b }

module _ (opened : ℕ → Option ℕ) (a v : ℕ) (f g : ℕ → ℕ) (l : Lower a v f g) where
  pub over_lower : (p : ℕ) → a < accounts → is (under opened a) p ≡ true → over opened p f + v ≡ over opened p g
  unfolding over
  over_lower p h t =
      sum_lower accounts a v _ _ h (rw t l.here) (λ b q. ap (λ n. cond (is (under opened b) p) n 0) (l.there b q))

  pub over_apart : (p : ℕ) → is (under opened a) p ≡ false → over opened p f ≡ over opened p g
  over_apart p t = over_same opened p f g (λ b h e. l.there b (λ q. both_ways (is (under opened a) p) t (rw q at e)))

-- the accounts' figures that participants' figures are made of, in two states
pub record Moved (s s' : State) (a b : ℕ) (cv pv rv kv : ℕ) : Type 0 where
  pub opened : s'.opened ≡ s.opened
  pub claim_by : Lower a cv (from_customer (claim s')) (from_customer (claim s))
  pub pooled_by : Lower a pv (pooled s') (pooled s)
  pub rest_by : Lower b rv (rest s') (rest s)
  pub kept_by : Lower a kv (from_customer (kept s')) (from_customer (kept s))
  pub passed_by : (c : ℕ) → from_customer (passed_on s') c ≡ from_customer (passed_on s) c

pub record Sums (s s' : State) (p : ℕ) (pv rv kv : ℕ) : Type 0 where
  pub pool_by : pool s' p + pv ≡ pool s p
  pub charge_by : charge s' p + rv ≡ charge s p
  pub kept_by : over s'.opened p (from_customer (kept s')) + kv ≡ over s.opened p (from_customer (kept s))
  pub passed_by : over s'.opened p (from_customer (passed_on s')) ≡ over s.opened p (from_customer (passed_on s))

module _ (s s' : State) (a b cv pv rv kv : ℕ) (m : Moved s s' a b cv pv rv kv) (p : ℕ) where
  -- the accounts of p are those that they were
  re : (f : ℕ → ℕ) → over s'.opened p f ≡ over s.opened p f
  re f = ap (λ o. over o p f) m.opened

  pub sums_here : a < accounts → b < accounts → is (under s.opened a) p ≡ true → is (under s.opened b) p ≡ true → Sums s s' p pv rv kv
  unfolding pool charge
  sums_here ha hb ta tb = record {
    pool_by = ap (λ n. n + pv) (re _) ∙ over_lower s.opened a pv _ _ m.pooled_by p ha ta;
    charge_by = ap (λ n. n + rv) (re _) ∙ over_lower s.opened b rv _ _ m.rest_by p hb tb;
    kept_by = ap (λ n. n + kv) (re _) ∙ over_lower s.opened a kv _ _ m.kept_by p ha ta;
    passed_by = re _ ∙ over_same s.opened p _ _ (λ c h e. m.passed_by c);
  }

  pub sums_apart : is (under s.opened a) p ≡ false → is (under s.opened b) p ≡ false → Sums s s' p 0 0 0
  unfolding pool charge
  sums_apart ta tb = record {
    pool_by = add-zero _ ∙ re _ ∙ over_apart s.opened a pv _ _ m.pooled_by p ta;
    charge_by = add-zero _ ∙ re _ ∙ over_apart s.opened b rv _ _ m.rest_by p tb;
    kept_by = add-zero _ ∙ re _ ∙ over_apart s.opened a kv _ _ m.kept_by p ta;
    passed_by = re _ ∙ over_same s.opened p _ _ (λ c h e. m.passed_by c);
  }

-- the answers then
pub part_still : (s s' : State) (p : ℕ) → Sums s s' p 0 0 0 → (participant_claim s' p ≡ participant_claim s p) × (retained s' p ≡ retained s p)
unfolding participant_claim retained kept_from_pool
part_still s s' p m = (omega arith, omega arith)

-- a withdrawal from the pool: what is kept from it stays
pub part_withdrawn : (s s' : State) (p v : ℕ) → Sums s s' p v 0 0 → kept_from_pool s p ≤ pool s' p → (participant_claim s' p + v ≡ participant_claim s p) × (retained s' p ≡ retained s p)
unfolding participant_claim retained kept_from_pool
part_withdrawn s s' p v m h = (omega arith, omega arith)

-- a seizure by side 0, and by side 1
pub part_seized_0 : (s s' : State) (p v : ℕ) → Sums s s' p 0 0 v → (participant_claim s' p ≡ participant_claim s p) × (retained s' p + v ≡ retained s p)
unfolding participant_claim retained kept_from_pool
part_seized_0 s s' p v m = (omega arith, omega arith)

pub part_seized_1 : (s s' : State) (p v : ℕ) → Sums s s' p v v 0 → (participant_claim s' p ≡ participant_claim s p) × (retained s' p + v ≡ retained s p)
unfolding participant_claim retained kept_from_pool
part_seized_1 s s' p v m = (omega arith, omega arith)

-- one account's figures in two states: lower by these, or the same
pub record At (s s' : State) (c cv pv rv kv : ℕ) : Type 0 where
  pub claim_at : from_customer (claim s') c + cv ≡ from_customer (claim s) c
  pub pooled_at : pooled s' c + pv ≡ pooled s c
  pub rest_at : rest s' c + rv ≡ rest s c
  pub kept_at : from_customer (kept s') c + kv ≡ from_customer (kept s) c
  pub passed_at : from_customer (passed_on s') c ≡ from_customer (passed_on s) c

-- lower at a, and the same elsewhere
pub moved : (s s' : State) (a cv pv rv kv : ℕ) → s'.opened ≡ s.opened → At s s' a cv pv rv kv → ((c : ℕ) → (c ≡ a → ⊥) → At s s' c 0 0 0 0) → Moved s s' a a cv pv rv kv
moved s s' a cv pv rv kv o h t = record {
  opened = o;
  claim_by = record { here = h.claim_at; there = λ c q. let z = t c q in omega arith };
  pooled_by = record { here = h.pooled_at; there = λ c q. let z = t c q in omega arith };
  rest_by = record { here = h.rest_at; there = λ c q. let z = t c q in omega arith };
  kept_by = record { here = h.kept_at; there = λ c q. let z = t c q in omega arith };
  passed_by = λ c. everywhere c (cases_eq c a);
}
  where
    everywhere : (c : ℕ) → (c ≡ a) ⊎ (c ≡ a → ⊥) → from_customer (passed_on s') c ≡ from_customer (passed_on s) c
    everywhere c (inl e) = rw e h.passed_at
    everywhere c (inr q) = (t c q).passed_at

-- v at account i, and 0 elsewhere
abbrev pub on : ℕ → ℕ → ℕ → ℕ
on i v c = cond (eqb c i) v 0

pub on_lower : (i v : ℕ) (f g : ℕ → ℕ) → ((c : ℕ) → f c + on i v c ≡ g c) → Lower i v f g
on_lower i v f g h = record {
  here = rw (eq-eqb i i refl) at (h i);
  there = λ c q. sym (add-zero (f c)) ∙ (rw (ne_eqb c i q) at (h c));
}

-- what is pooled lower at a, the rest lower at b, and all else the same
pub moved_2 : (s s' : State) (a b v : ℕ) → s'.opened ≡ s.opened → ((c : ℕ) → At s s' c 0 (on a v c) (on b v c) 0) → Moved s s' a b 0 v v 0
moved_2 s s' a b v o h = record {
  opened = o;
  claim_by = same_lower a _ _ (λ c. sym (add-zero _) ∙ (h c).claim_at);
  pooled_by = on_lower a v _ _ (λ c. (h c).pooled_at);
  rest_by = on_lower b v _ _ (λ c. (h c).rest_at);
  kept_by = same_lower a _ _ (λ c. sym (add-zero _) ∙ (h c).kept_at);
  passed_by = λ c. (h c).passed_at;
}

-- An accepted seizure.
use Rattle.std.proofs.Common.{◌≡◌, ℕ, ◌+◌, ◌-◌, ◌<◌, ◌≤◌, Bool, true, false, cond, not, ◌&&◌, ◌||◌, eqb, ltb, ◌⊎◌, sym, refl, ap, ◌∙◌, subst, inl, inr, ⊎_elim, add-zero, arith}
use Rattle.std.proofs.lemmas.Bool.{cases_eq, both_ways, eq-eqb, ne_eqb, ltb-false, not-false, or_parts, eqb-true, ltb-true}
use Rattle.rules.specs.declared.row.AccountRow.{AccountRow}
use Rattle.rules.proofs.Pockets.{worth_left, put_here, put_there}
use Rattle.rules.proofs.Moves.{At, moved, on, moved_2, part_seized_0, part_seized_1}
use Rattle.rules.proofs.Tiers.{at_still, at_pays, at_house, at_seized_0, at_seized_1}
use Rattle.rules.proofs.Lowering.{LowerBy, own_sums, lowered_retained}
use Rattle.rules.proofs.Passed.{passed}
use Rattle.rules.proofs.InStep.{Sound, low_participant}
use Rattle.rules.proofs.Withdrawals.{pocket_low, pocket_kinds, left_here, left_there}
use Rattle.rules.specs.Sizes.{assets, house, pockets, put}
use Rattle.rules.specs.Claims.{lesser, remainder}
use Rattle.rules.specs.States.{State, Terms, known, participant_of}
use Rattle.rules.specs.Figures.{excess, kept, kept_from_pool, pocket_value, replacement, rest, withheld}
use Rattle.rules.specs.Orders.{answer, customer_draws, effect, leaving, no_such_pocket, paid_row, seize, seizure_barred, taken, with_row}
use Rattle.rules.specs.Law.{Exact, sum_retained}

-- the book after a seizure of value v
abbrev pub seized : State → ℕ → ℕ → ℕ → ℕ → ℕ → ℕ → State
seized s side a k x b n = with_row (taken s a k x n) b (paid_row side k (leaving s (taken s a k x n) a k x) (s.rows b))

-- what the tests leave
pub record Allowed (s : State) (side a k x b n : ℕ) : Type 0 where
  pub is_known : known s a ≡ true
  pub other_known : known s b ≡ true
  pub one_participant : participant_of s b ≡ participant_of s a
  pub pocket_ok : no_such_pocket a k ≡ false
  pub sides_ok : cond (eqb side 0) (house a || not (eqb a b)) (customer_draws a k) ≡ false
  pub asset_ok : x < assets
  pub right : seizure_barred s side a k b (leaving s (taken s a k x n) a k x) ≡ false

pub allowed : (T : Terms) (s : State) (side a k x b n : ℕ) → answer T s (seize side a k x b n) ≡ 0 → Allowed s side a k x b n
allowed T s side a k x b n e =
    let p = passed T s (seize side a k x b n) e in
    let p5 = or_parts (not (known s a)) _ p.0 in
    let p7 = or_parts (no_such_pocket a k) _ p.1.1.0 in
    record {
      is_known = not-false _ p5.0;
      other_known = not-false _ p5.1;
      one_participant = sym (eqb-true _ _ (not-false _ p.1.0));
      pocket_ok = p7.0;
      sides_ok = (or_parts (ltb 1 side) _ p7.1).1;
      asset_ok = ltb-true x assets (not-false _ p.1.1.1.0);
      right = p.1.1.1.1.1.1.1.0;
    }

kept_low : (s : State) (c : ℕ) → (kept s c ≤ (s.rows c).declared.customer_debt) × (kept s c ≤ (s.rows c).declared.participant_debt)
unfolding kept withheld
kept_low s c = (omega arith, omega arith)

rest_low : (s : State) (c : ℕ) → rest s c ≤ (s.rows c).declared.participant_debt
unfolding rest
rest_low s c = go (house c)
  where
    go : (h : Bool) → cond h (s.rows c).declared.participant_debt (remainder (s.rows c).declared.participant_debt (withheld s c)) ≤ (s.rows c).declared.participant_debt
    go true = omega arith
    go false = omega arith

rest_customer : (s : State) (c : ℕ) → house c ≡ false → rest s c ≡ remainder (s.rows c).declared.participant_debt (withheld s c)
unfolding rest
rest_customer s c h = rw h refl

-- side 0: the account pays for itself
module _ (s : State) (side a k x n : ℕ) (z : eqb side 0 ≡ true) (sd : Sound s) (al : Allowed s side a k x a n) where
  hk : k < pockets
  hk = pocket_low a k al.pocket_ok

  v : ℕ
  v = leaving s (taken s a k x n) a k x

  s' : State
  s' = seized s side a k x a n

  row : put s.rows a (paid_row side k (leaving s (taken s a k x n) a k x) (s.rows a)) a ≡ paid_row side k (leaving s (taken s a k x n) a k x) (s.rows a)
  row = put_here s.rows a _

  right_0 : (eqb v 0 ≡ false) × (v ≤ kept s a) × (k ≡ 1 → v ≤ lesser (replacement s a) (s.rows a).declared.customer_margin)
  unfolding seizure_barred v
  right_0 =
      let p = or_parts (eqb v 0) _ al.right in
      let q = or_parts (ltb (kept s a) v) (eqb k 1 && ltb (lesser (replacement s a) (s.rows a).declared.customer_margin) v) (rw z at p.1) in
      (p.0, ltb-false _ _ q.0, λ e. ltb-false _ _ (rw (eq-eqb k 1 e) at q.1))

  at_payer : house a ≡ false → At s (seized s side a k x a n) a 0 0 0 (leaving s (taken s a k x n) a k x)
  unfolding v
  at_payer h = go (cases_eq k 0)
    where
      debt_in : (put s.rows a (paid_row side k v (s.rows a)) a).declared.customer_debt + v ≡ (s.rows a).declared.customer_debt
      debt_in = let l = kept_low s a in let f = ap (λ r. r.declared.customer_debt) row in let g : (paid_row side k v (s.rows a)).declared.customer_debt ≡ (s.rows a).declared.customer_debt - v = rw z refl in let w = right_0.1 in omega arith

      due_in : (put s.rows a (paid_row side k v (s.rows a)) a).declared.participant_debt + v ≡ (s.rows a).declared.participant_debt
      due_in = let l = kept_low s a in let f = ap (λ r. r.declared.participant_debt) row in let w = right_0.1 in omega arith

      go : (k ≡ 0) ⊎ (k ≡ 0 → ⊥) → At s (seized s side a k x a n) a 0 0 0 v
      go (inl e) =
          at_seized_0 s (seized s side a k x a n) a h v
          (record {
            direct_in = left_here s a k x n hk al.asset_ok 0 e;
            replaced_in = left_there s a k x n hk al.asset_ok a 1 (omega arith) (λ g f. omega arith);
            margin_in = let f = ap (λ r. r.declared.customer_margin) row in let g : (paid_row side k v (s.rows a)).declared.customer_margin ≡ (s.rows a).declared.customer_margin = rw (z, e) refl in omega arith;
            debt_in = debt_in;
            due_in = due_in;
          })
          right_0.1
      go (inr q) =
          let e : k ≡ 1 = omega (arith, hk) in
          at_seized_1 s (seized s side a k x a n) a h v
          (record {
            direct_in = left_there s a k x n hk al.asset_ok a 0 (omega arith) (λ g f. omega arith);
            replaced_in = left_here s a k x n hk al.asset_ok 1 e;
            margin_in = let f = ap (λ r. r.declared.customer_margin) row in let g : (paid_row side k v (s.rows a)).declared.customer_margin ≡ (s.rows a).declared.customer_margin - v = rw (z, eq-eqb k 1 e) refl in let w = right_0.2 e in omega arith;
            debt_in = debt_in;
            due_in = due_in;
          })
          right_0.1 (right_0.2 e)

  rows_still : (c : ℕ) → (c ≡ a → ⊥) → s'.rows c ≡ s.rows c
  unfolding s'
  rows_still c q = put_there s.rows a _ c q

  elsewhere : (c : ℕ) → (c ≡ a → ⊥) → At s (seized s side a k x a n) c 0 0 0 0
  unfolding s'
  elsewhere c q =
      at_still s (seized s side a k x a n) c (record {
        direct_in = left_there s a k x n hk al.asset_ok c 0 (omega arith) (λ e f. q e);
        replaced_in = left_there s a k x n hk al.asset_ok c 1 (omega arith) (λ e f. q e);
        margin_in = add-zero _ ∙ ap (λ r. r.declared.customer_margin) (rows_still c q);
        debt_in = add-zero _ ∙ ap (λ r. r.declared.customer_debt) (rows_still c q);
        due_in = add-zero _ ∙ ap (λ r. r.declared.participant_debt) (rows_still c q);
      })

  lowered_0 : house a ≡ false → LowerBy (sum_retained (participant_of s a)) (leaving s (taken s a k x n) a k x) s (seized s side a k x a n)
  lowered_0 h =
      let m = moved s (seized s side a k x a n) a 0 0 0 _ refl (at_payer h) elsewhere in
      lowered_retained s (seized s side a k x a n) a a 0 0 _ _ m refl (low_participant s a sd al.is_known)
      (part_seized_0 s (seized s side a k x a n) (participant_of s a) _ (own_sums s (seized s side a k x a n) a a 0 0 0 _ m al.is_known al.is_known refl))

-- side 1: a house pocket, or pocket 1, pays for an account
module _ (s : State) (side a k x b n : ℕ) (z : eqb side 0 ≡ false) (sd : Sound s) (al : Allowed s side a k x b n) where
  hk1 : k < pockets
  hk1 = pocket_low a k al.pocket_ok

  u : ℕ
  u = leaving s (taken s a k x n) a k x

  right_1 : (u ≤ rest s b) × (k ≡ 1 → u ≤ excess s a)
  unfolding seizure_barred u
  right_1 =
      let p = or_parts (eqb u 0) _ al.right in
      let q = or_parts (ltb (kept_from_pool s (participant_of s a)) u || ltb (rest s b) u) (eqb k 1 && ltb (excess s a) u) (rw z at p.1) in
      let r = or_parts (ltb (kept_from_pool s (participant_of s a)) u) (ltb (rest s b) u) q.0 in
      (ltb-false _ _ r.1, λ e. ltb-false _ _ (rw (eq-eqb k 1 e) at q.1))

  off : (i c : ℕ) → (c ≡ i → ⊥) → on i u c ≡ 0
  off i c q = rw (ne_eqb c i q) refl

  upon : (i c : ℕ) → c ≡ i → on i u c ≡ u
  upon i c e = rw (eq-eqb c i e) refl

  -- the pocket that pays, in each account; any other
  pays : (c j : ℕ) → j < pockets → k ≡ j → pocket_value s.price (taken s a k x n).held c j + on a u c ≡ pocket_value s.price s.held c j
  unfolding u
  pays c j hj e = go (cases_eq c a)
    where
      go : (c ≡ a) ⊎ (c ≡ a → ⊥) → pocket_value s.price (taken s a k x n).held c j + on a u c ≡ pocket_value s.price s.held c j
      go (inl q) = rw (upon a c q) (rw q (left_here s a k x n hk1 al.asset_ok j e))
      go (inr q) = rw (off a c q) (left_there s a k x n hk1 al.asset_ok c j hj (λ g f. q g))

  pays_not : (c j : ℕ) → j < pockets → (c ≡ a → ⊥) → pocket_value s.price (taken s a k x n).held c j + on a u c ≡ pocket_value s.price s.held c j
  pays_not c j hj q = rw (off a c q) (left_there s a k x n hk1 al.asset_ok c j hj (λ g f. q g))

  due_by : (c : ℕ) → ((seized s side a k x b n).rows c).declared.participant_debt + on b u c ≡ (s.rows c).declared.participant_debt
  unfolding u
  due_by c = go (cases_eq c b)
    where
      go : (c ≡ b) ⊎ (c ≡ b → ⊥) → (put s.rows b (paid_row side k u (s.rows b)) c).declared.participant_debt + on b u c ≡ (s.rows c).declared.participant_debt
      go (inl q) =
          let here = ap (λ r. r.declared.participant_debt) (put_here s.rows b (paid_row side k u (s.rows b))) in
          let w = right_1.0 in
          let l = rest_low s b in
          rw (upon b c q) (rw q (omega arith))
      go (inr q) = rw (off b c q) (add-zero _ ∙ ap (λ r. r.declared.participant_debt) (put_there s.rows b _ c q))

  -- customer margin and customer's debt stay
  row_by : (c : ℕ) → (((seized s side a k x b n).rows c).declared.customer_margin + 0 ≡ (s.rows c).declared.customer_margin) × (((seized s side a k x b n).rows c).declared.customer_debt + 0 ≡ (s.rows c).declared.customer_debt)
  row_by c = go (cases_eq c b)
    where
      r : AccountRow
      r = paid_row side k (leaving s (taken s a k x n) a k x) (s.rows b)

      go : (c ≡ b) ⊎ (c ≡ b → ⊥) → ((put s.rows b r c).declared.customer_margin + 0 ≡ (s.rows c).declared.customer_margin) × ((put s.rows b r c).declared.customer_debt + 0 ≡ (s.rows c).declared.customer_debt)
      go (inl q) =
          let m : r.declared.customer_margin ≡ (s.rows b).declared.customer_margin = rw z refl in
          let d : r.declared.customer_debt ≡ (s.rows b).declared.customer_debt = rw z refl in
          rw q (add-zero _ ∙ ap (λ r. r.declared.customer_margin) (put_here s.rows b r) ∙ m, add-zero _ ∙ ap (λ r. r.declared.customer_debt) (put_here s.rows b r) ∙ d)
      go (inr q) = (add-zero _ ∙ ap (λ r. r.declared.customer_margin) (put_there s.rows b r c q), add-zero _ ∙ ap (λ r. r.declared.customer_debt) (put_there s.rows b r c q))

  rest_by : (c : ℕ) → house c ≡ false → on b u c ≤ remainder (s.rows c).declared.participant_debt (withheld s c)
  rest_by c h = go (cases_eq c b)
    where
      go : (c ≡ b) ⊎ (c ≡ b → ⊥) → on b u c ≤ remainder (s.rows c).declared.participant_debt (withheld s c)
      go (inl q) =
          let w : u ≤ rest s c = rw q right_1.0 in
          let e = rest_customer s c h in
          rw (upon b c q) (omega arith)
      go (inr q) = rw (off b c q) (omega arith)

  different : (c : ℕ) (t : Bool) → house a ≡ t → house c ≡ not t → c ≡ a → ⊥
  different c true h g e = both_ways (house c) g (ap house e ∙ h)
  different c false h g e = both_ways (house c) (ap house e ∙ h) g

  -- what leaves pocket 1 was excess
  excess_by : (c : ℕ) → house c ≡ false → k ≡ 1 → lesser (replacement s c) (s.rows c).declared.customer_margin ≤ replacement (seized s side a k x b n) c
  unfolding excess
  excess_by c h e = go (cases_eq c a)
    where
      go : (c ≡ a) ⊎ (c ≡ a → ⊥) → lesser (replacement s c) (s.rows c).declared.customer_margin ≤ replacement (seized s side a k x b n) c
      go (inl q) =
          let w = right_1.1 e in
          let p = rw (upon a a refl) at (pays a 1 (omega arith) e) in
          rw q (omega arith)
      go (inr q) = let p = rw (off a c q) at (pays c 1 (omega arith) e) in omega arith

  each_house : house a ≡ true → k ≡ 0 → (c : ℕ) → At s (seized s side a k x b n) c 0 (on a u c) (on b u c) 0
  each_house ha e c = go (house c) refl
    where
      go : (t : Bool) → house c ≡ t → At s (seized s side a k x b n) c 0 (on a u c) (on b u c) 0
      go true h = at_house s (seized s side a k x b n) c h (on a u c) (on b u c) (pays c 0 (omega arith) e) (due_by c)
      go false h =
          let q = different c true ha h in
          let p = pays_not c 1 (omega arith) q in
          let p' = off a c q in
          at_pays s (seized s side a k x b n) c h (on a u c) (on b u c)
          (record {
            direct_in = left_there s a k x n hk1 al.asset_ok c 0 (omega arith) (λ g f. q g);
            replaced_in = p;
            margin_in = (row_by c).0;
            debt_in = (row_by c).1;
            due_in = due_by c;
          })
          (omega arith) (rest_by c h)

  each_replaced : house a ≡ false → k ≡ 1 → (c : ℕ) → At s (seized s side a k x b n) c 0 (on a u c) (on b u c) 0
  each_replaced ha e c = go (house c) refl
    where
      go : (t : Bool) → house c ≡ t → At s (seized s side a k x b n) c 0 (on a u c) (on b u c) 0
      go true h = at_house s (seized s side a k x b n) c h (on a u c) (on b u c) (pays_not c 0 (omega arith) (different c false ha h)) (due_by c)
      go false h =
          at_pays s (seized s side a k x b n) c h (on a u c) (on b u c)
          (record {
            direct_in = left_there s a k x n hk1 al.asset_ok c 0 (omega arith) (λ g f. omega arith);
            replaced_in = pays c 1 (omega arith) e;
            margin_in = (row_by c).0;
            debt_in = (row_by c).1;
            due_in = due_by c;
          })
          (excess_by c h e) (rest_by c h)

  lowered_by_each : ((c : ℕ) → At s (seized s side a k x b n) c 0 (on a u c) (on b u c) 0) → LowerBy (sum_retained (participant_of s a)) (leaving s (taken s a k x n) a k x) s (seized s side a k x b n)
  unfolding u
  lowered_by_each each =
      let m = moved_2 s (seized s side a k x b n) a b u refl each in
      lowered_retained s (seized s side a k x b n) a b _ _ 0 _ m al.one_participant (low_participant s a sd al.is_known)
      (part_seized_1 s (seized s side a k x b n) (participant_of s a) _ (own_sums s (seized s side a k x b n) a b 0 _ _ 0 m al.is_known al.other_known al.one_participant))

  lowered_1 : LowerBy (sum_retained (participant_of s a)) (leaving s (taken s a k x n) a k x) s (seized s side a k x b n)
  lowered_1 = ⊎_elim (λ p. absurd (not_direct p)) (⊎_elim (λ p. lowered_by_each (each_replaced p.0 p.1)) (λ p. lowered_by_each (each_house p.0 p.1))) (pocket_kinds a k al.pocket_ok)
    where
      not_direct : (house a ≡ false) × (k ≡ 0) → ⊥
      not_direct p = let d : customer_draws a k ≡ true = rw (p.0, eq-eqb k 0 p.1) refl in both_ways (customer_draws a k) (rw z at al.sides_ok) d

pub exact_seize : (T : Terms) (s : State) (side a k x b n : ℕ) → Sound s → answer T s (seize side a k x b n) ≡ 0 → Exact T s (seize side a k x b n) (effect s (seize side a k x b n))
exact_seize T s side a k x b n sd e =
    let l = go (eqb side 0) refl in
    record { left = leaving s (taken s a k x n) a k x; left_the_box = worth_left s.price s.held a k x n; by_exactly = l.by_exactly; no_other = l.no_other }
  where
    al : Allowed s side a k x b n
    al = allowed T s side a k x b n e

    go : (t : Bool) → eqb side 0 ≡ t → LowerBy (sum_retained (participant_of s a)) (leaving s (taken s a k x n) a k x) s (seized s side a k x b n)
    go true z =
        let p = or_parts (house a) (not (eqb a b)) (rw z at al.sides_ok) in
        let q : a ≡ b = eqb-true a b (not-false (eqb a b) p.1) in
        let al' = subst (λ c. Allowed s side a k x c n) (sym q) al in
        subst (λ c. LowerBy (sum_retained (participant_of s a)) (leaving s (taken s a k x n) a k x) s (seized s side a k x c n)) q
        (lowered_0 s side a k x n z sd al' p.0)
    go false z = lowered_1 s side a k x b n z sd al

-- An accepted withdrawal.
use Rattle.std.proofs.Common.{◌≡◌, ℕ, ◌+◌, ◌<◌, ◌≤◌, Bool, true, false, not, ◌&&◌, eqb, ltb, ◌⊎◌, refl, ap, ◌∙◌, inl, inr, ⊎_elim, add-zero, arith}
use Rattle.std.proofs.lemmas.Bool.{both_ways, eq-eqb, ltb-false, not-false, or_parts, eqb-true, eqb-false, ltb-true}
use Rattle.rules.proofs.Pockets.{worth_left, pocket_taken, pocket_other}
use Rattle.rules.proofs.Moves.{At, moved, part_withdrawn}
use Rattle.rules.proofs.Tiers.{Inputs, at_still, at_direct, at_pays, at_house}
use Rattle.rules.proofs.Lowering.{LowerBy, own_sums, lowered_customer, lowered_participant}
use Rattle.rules.proofs.Passed.{passed}
use Rattle.rules.proofs.InStep.{Sound, low_participant}
use Rattle.rules.specs.Sizes.{assets, house, pockets}
use Rattle.rules.specs.Claims.{lesser}
use Rattle.rules.specs.States.{State, Terms, known, participant_of}
use Rattle.rules.specs.Figures.{covering_value, kept_from_pool, maintenance_amount, pocket_value, replacement, withheld}
use Rattle.rules.specs.Orders.{answer, customer_draws, effect, leaving, no_such_pocket, taken, withdraw, withdrawal_barred}
use Rattle.rules.specs.Law.{Exact, withdrawing_party}

-- a pocket that is not refused
pub pocket_low : (a k : ℕ) → no_such_pocket a k ≡ false → k < pockets
pocket_low a k e = ltb-true k pockets (not-false _ (or_parts (not (ltb k pockets)) _ e).0)

pub pocket_kinds : (a k : ℕ) → no_such_pocket a k ≡ false → ((house a ≡ false) × (k ≡ 0)) ⊎ (((house a ≡ false) × (k ≡ 1)) ⊎ ((house a ≡ true) × (k ≡ 0)))
pocket_kinds a k e = go (house a) refl (eqb k 0) refl
  where
    low : k < pockets
    low = pocket_low a k e

    p : (house a && not (eqb k 0)) ≡ false
    p = (or_parts (not (ltb k pockets)) (house a && not (eqb k 0)) e).1

    go : (h : Bool) → house a ≡ h → (z : Bool) → eqb k 0 ≡ z → ((house a ≡ false) × (k ≡ 0)) ⊎ (((house a ≡ false) × (k ≡ 1)) ⊎ ((house a ≡ true) × (k ≡ 0)))
    go false i true j = inl (i, eqb-true k 0 j)
    go false i false j = inr (inl (i, let q : k ≡ 0 → ⊥ = eqb-false k 0 j in omega (arith, low)))
    go true i true j = inr (inr (i, eqb-true k 0 j))
    go true i false j = absurd (both_ways (house a && not (eqb k 0)) p (rw (i, j) refl))

-- the numbers of the accounts when n units leave a box
module _ (s : State) (a k x n : ℕ) (hk : k < pockets) (hx : x < assets) where
  pub left_here : (j : ℕ) → k ≡ j → pocket_value s.price (taken s a k x n).held a j + leaving s (taken s a k x n) a k x ≡ pocket_value s.price s.held a j
  left_here j e =
      let t = pocket_taken s.price s.held a k x n hk hx in
      let p = ap (pocket_value s.price (taken s a k x n).held a) e in
      let q = ap (pocket_value s.price s.held a) e in
      omega arith

  pub left_there : (c j : ℕ) → j < pockets → (c ≡ a → j ≡ k → ⊥) → pocket_value s.price (taken s a k x n).held c j + 0 ≡ pocket_value s.price s.held c j
  left_there c j hj q = add-zero _ ∙ pocket_other s.price s.held a k x n hk hx c j hj q

  pub inputs_still : (c : ℕ) → (c ≡ a → ⊥) → Inputs s (taken s a k x n) c 0 0 0 0 0
  inputs_still c q = record {
    direct_in = left_there c 0 (omega arith) (λ e f. q e);
    replaced_in = left_there c 1 (omega arith) (λ e f. q e);
    margin_in = add-zero _;
    debt_in = add-zero _;
    due_in = add-zero _;
  }

  pub inputs_0 : k ≡ 0 → Inputs s (taken s a k x n) a (leaving s (taken s a k x n) a k x) 0 0 0 0
  inputs_0 e = record {
    direct_in = left_here 0 e;
    replaced_in = left_there a 1 (omega arith) (λ g f. omega arith);
    margin_in = add-zero _;
    debt_in = add-zero _;
    due_in = add-zero _;
  }

  pub inputs_1 : k ≡ 1 → Inputs s (taken s a k x n) a 0 (leaving s (taken s a k x n) a k x) 0 0 0
  inputs_1 e = record {
    direct_in = left_there a 0 (omega arith) (λ g f. omega arith);
    replaced_in = left_here 1 e;
    margin_in = add-zero _;
    debt_in = add-zero _;
    due_in = add-zero _;
  }

-- what the tests leave
pub record Allowed (T : Terms) (s : State) (a k x n : ℕ) : Type 0 where
  pub is_known : known s a ≡ true
  pub pocket_ok : no_such_pocket a k ≡ false
  pub asset_ok : x < assets
  pub covered : maintenance_amount T s a ≤ covering_value (taken s a k x n) a
  pub enough : withdrawal_barred s (taken s a k x n) a k ≡ false

allowed : (T : Terms) (s : State) (a k x n : ℕ) → answer T s (withdraw a k x n) ≡ 0 → Allowed T s a k x n
allowed T s a k x n e =
    let p = passed T s (withdraw a k x n) e in
    record {
      is_known = not-false _ p.0;
      pocket_ok = p.1.0;
      asset_ok = ltb-true x assets (not-false _ p.1.1.0);
      covered = ltb-false _ _ p.1.1.1.1.1.1.0;
      enough = p.1.1.1.1.1.1.1.0;
    }

module _ (T : Terms) (s : State) (a k x n : ℕ) (sd : Sound s) (al : Allowed T s a k x n) where
  hk : k < pockets
  hk = pocket_low a k al.pocket_ok

  elsewhere : (c : ℕ) → (c ≡ a → ⊥) → At s (taken s a k x n) c 0 0 0 0
  elsewhere c q = at_still s (taken s a k x n) c (inputs_still s a k x n hk al.asset_ok c q)

  by_customer : house a ≡ false → k ≡ 0 → LowerBy (withdrawing_party s a k) (leaving s (taken s a k x n) a k x) s (taken s a k x n)
  unfolding withdrawal_barred withheld
  by_customer h e =
      let d : customer_draws a k ≡ true = rw (h, eq-eqb k 0 e) refl in
      let g = rw d at al.enough in
      let at_a = at_direct s (taken s a k x n) a h _ (inputs_0 s a k x n hk al.asset_ok e) (ltb-false _ _ g) in
      rw d (lowered_customer s (taken s a k x n) a _ al.is_known (moved s (taken s a k x n) a _ 0 0 0 refl at_a elsewhere))

  by_participant : customer_draws a k ≡ false → At s (taken s a k x n) a 0 (leaving s (taken s a k x n) a k x) 0 0 → LowerBy (withdrawing_party s a k) (leaving s (taken s a k x n) a k x) s (taken s a k x n)
  unfolding withdrawal_barred kept_from_pool
  by_participant d at_a =
      let g = or_parts _ _ (rw d at al.enough) in
      let m = moved s (taken s a k x n) a 0 _ 0 0 refl at_a elsewhere in
      let w = part_withdrawn s (taken s a k x n) (participant_of s a) _ (own_sums s (taken s a k x n) a a 0 _ 0 0 m al.is_known al.is_known refl) (ltb-false _ _ g.1) in
      rw d (lowered_participant s (taken s a k x n) a a _ 0 0 _ m refl (low_participant s a sd al.is_known) w)

  by_replacement : house a ≡ false → k ≡ 1 → LowerBy (withdrawing_party s a k) (leaving s (taken s a k x n) a k x) s (taken s a k x n)
  unfolding withdrawal_barred
  by_replacement h e =
      let d : customer_draws a k ≡ false = rw (h, e) refl in
      let g = or_parts (eqb k 1 && ltb (replacement (taken s a k x n) a) (lesser (replacement s a) (s.rows a).declared.customer_margin)) _ (rw d at al.enough) in
      let g' = rw (eq-eqb k 1 e) at g.0 in
      by_participant d (at_pays s (taken s a k x n) a h _ 0 (inputs_1 s a k x n hk al.asset_ok e) (ltb-false _ _ g') (omega arith))

  by_house : house a ≡ true → k ≡ 0 → LowerBy (withdrawing_party s a k) (leaving s (taken s a k x n) a k x) s (taken s a k x n)
  by_house h e =
      let i = inputs_0 s a k x n hk al.asset_ok e in
      let d : customer_draws a k ≡ false = rw h refl in
      by_participant d (at_house s (taken s a k x n) a h _ 0 i.direct_in i.due_in)

  lowered : LowerBy (withdrawing_party s a k) (leaving s (taken s a k x n) a k x) s (taken s a k x n)
  lowered = ⊎_elim (λ p. by_customer p.0 p.1) (⊎_elim (λ p. by_replacement p.0 p.1) (λ p. by_house p.0 p.1)) (pocket_kinds a k al.pocket_ok)

pub exact_withdraw : (T : Terms) (s : State) (a k x n : ℕ) → Sound s → answer T s (withdraw a k x n) ≡ 0 → Exact T s (withdraw a k x n) (effect s (withdraw a k x n))
unfolding maintenance_amount
exact_withdraw T s a k x n sd e =
    let al = allowed T s a k x n e in
    let l = lowered T s a k x n sd al in
    (record { left = leaving s (taken s a k x n) a k x; left_the_box = worth_left s.price s.held a k x n; by_exactly = l.by_exactly; no_other = l.no_other }, al.covered)

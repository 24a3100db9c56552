-- What a customer question reads follows from the accepted marks and the account's own accepted calls.
use Rattle.std.proofs.Common.{◌≡◌, ℕ, ◌+◌, ◌-◌, ◌*◌, ◌<◌, Bool, true, false, cond, not, ◌&&◌, eqb, ◌⊎◌, List, [], ◌∷◌, Some, fold, sym, refl, ap, ◌∙◌, subst, ap₂, inl, inr, arith}
use Rattle.std.proofs.lemmas.Bool.{cases_eq, eq-eqb, ne_eqb, eqb-true, eqb-false, not-false, or_parts, true≢false, ltb-true}
use Rattle.rules.proofs.Sums.{sum_same}
use Rattle.rules.proofs.Pockets.{put_there}
use Rattle.rules.proofs.Passed.{passed, done, undone}
use Rattle.rules.proofs.Withdrawals.{pocket_low}
use Rattle.rules.proofs.Seizures.{Allowed, allowed}
use Rattle.rules.specs.declared.row.AccountRow.{AccountRow}
use Rattle.rules.specs.declared.standing.Standing.{Standing}
use Rattle.rules.specs.declared.standing.Standing.TheVariants.{Suspended, Settled}
use Rattle.rules.specs.Sizes.{assets, box, house, pockets, put}
use Rattle.rules.specs.Values.{market}
use Rattle.rules.specs.States.{State, Terms, made}
use Rattle.rules.specs.Figures.{ask_customer, claim, own_pool, pocket_value, withheld, worth}
use Rattle.rules.specs.Orders.{Order, after, answer, declare, deposit, effect, leaving, mark, opening, paid_row, position, seize, settle, suspend, taken, with_held, with_row, with_standing, withdraw}
use Rattle.rules.specs.Runs.{accepted_for, concerns, history, run}

-- two states that look alike from account c
record Alike (c : ℕ) (s t : State) : Type 0 where
  opened_alike : s.opened c ≡ t.opened c
  price_alike : (x : ℕ) → s.price x ≡ t.price x
  held_alike : (j : ℕ) → j < 8 → s.held (c * 8 + j) ≡ t.held (c * 8 + j)
  margin_alike : (s.rows c).declared.customer_margin ≡ (t.rows c).declared.customer_margin
  debt_alike : (s.rows c).declared.customer_debt ≡ (t.rows c).declared.customer_debt

alike_self : (c : ℕ) (s : State) → Alike c s s
alike_self c s = record { opened_alike = refl; price_alike = λ x. refl; held_alike = λ j h. refl; margin_alike = refl; debt_alike = refl }

pocket_alike : (c k : ℕ) (s t : State) → k < pockets → Alike c s t → pocket_value s.price s.held c k ≡ pocket_value t.price t.held c k
unfolding pocket_value
pocket_alike c k s t hk l = sum_same assets _ _ (λ x hx. ap₂ (market x) (l.price_alike x) (l.held_alike (k * 4 + x) (omega arith)))

ask_alike : (c : ℕ) (s t : State) → Alike c s t → ask_customer s c ≡ ask_customer t c
unfolding claim withheld own_pool
ask_alike c s t l =
    let d = pocket_alike c 0 s t (omega arith) l in
    let r = pocket_alike c 1 s t (omega arith) l in
    let o = l.opened_alike in
    let m = l.margin_alike in
    let b = l.debt_alike in
    cc

put_both : {A B : Type 0} (f : A → B) (g h : ℕ → A) (i j : ℕ) (x y : A) → (j ≡ i → f x ≡ f y) → f (g j) ≡ f (h j) → f (put g i x j) ≡ f (put h i y j)
put_both f g h i j x y here there = go (cases_eq j i)
  where
    go : (j ≡ i) ⊎ (j ≡ i → ⊥) → f (put g i x j) ≡ f (put h i y j)
    go (inl e) = rw (eq-eqb j i e) (here e)
    go (inr q) = rw (ne_eqb j i q) there

-- one part of both states changes: rows, boxes or a standing
module _ (c : ℕ) (s t : State) (l : Alike c s t) where
  both_row : (a : ℕ) (q r : AccountRow) → (c ≡ a → (q.declared.customer_margin ≡ r.declared.customer_margin) × (q.declared.customer_debt ≡ r.declared.customer_debt)) → Alike c (with_row s a q) (with_row t a r)
  both_row a q r e = record {
    opened_alike = l.opened_alike;
    price_alike = l.price_alike;
    held_alike = l.held_alike;
    margin_alike = put_both (λ r. r.declared.customer_margin) s.rows t.rows a c q r (λ h. (e h).0) l.margin_alike;
    debt_alike = put_both (λ r. r.declared.customer_debt) s.rows t.rows a c q r (λ h. (e h).1) l.debt_alike;
  }

  -- units in a box, by the same change of what each holds
  both_held : (change : ℕ → ℕ) (b : ℕ) → Alike c (with_held s (put s.held b (change (s.held b)))) (with_held t (put t.held b (change (t.held b))))
  both_held change b = record {
    opened_alike = l.opened_alike;
    price_alike = l.price_alike;
    held_alike = λ j h. put_both (λ n. n) s.held t.held b (c * 8 + j) _ _ (λ q. ap change (rw q at (l.held_alike j h))) (l.held_alike j h);
    margin_alike = l.margin_alike;
    debt_alike = l.debt_alike;
  }

  both_standing : (p : ℕ) (q : Standing) → Alike c (with_standing s p q) (with_standing t p q)
  both_standing p q = record { opened_alike = l.opened_alike; price_alike = l.price_alike; held_alike = l.held_alike; margin_alike = l.margin_alike; debt_alike = l.debt_alike }

-- one part of the first state changes, where account c does not show it
module _ (c : ℕ) (s t : State) (l : Alike c s t) where
  other_row : (a : ℕ) (r : AccountRow) → eqb a c ≡ false → Alike c (with_row s a r) t
  other_row a r n =
      let q = put_there s.rows a r c (λ q. eqb-false a c n (sym q)) in
      record {
        opened_alike = l.opened_alike;
        price_alike = l.price_alike;
        held_alike = l.held_alike;
        margin_alike = ap (λ r. r.declared.customer_margin) q ∙ l.margin_alike;
        debt_alike = ap (λ r. r.declared.customer_debt) q ∙ l.debt_alike;
      }

  other_held : (a k x n : ℕ) → eqb a c ≡ false → k < pockets → x < assets → Alike c (with_held s (put s.held (box a k x) n)) t
  other_held a k x n e hk hx = record {
    opened_alike = l.opened_alike;
    price_alike = l.price_alike;
    held_alike = λ j h. put_there s.held (box a k x) n (c * 8 + j) (λ q. eqb-false a c e (omega arith)) ∙ l.held_alike j h;
    margin_alike = l.margin_alike;
    debt_alike = l.debt_alike;
  }

  other_standing : (p : ℕ) (q : Standing) → Alike c (with_standing s p q) t
  other_standing p q = record { opened_alike = l.opened_alike; price_alike = l.price_alike; held_alike = l.held_alike; margin_alike = l.margin_alike; debt_alike = l.debt_alike }

-- an accepted order keeps alike states alike
module _ (T : Terms) (c : ℕ) (s t : State) (l : Alike c s t) where
  -- the account's own value that leaves is alike
  leaving_alike : (k x n : ℕ) → k < pockets → x < assets → leaving s (taken s c k x n) c k x ≡ leaving t (taken t c k x n) c k x
  leaving_alike k x n hk hx =
      let h = l.held_alike (k * 4 + x) (omega arith) in
      let p = l.price_alike x in
      let before : worth s.price s.held c k x ≡ worth t.price t.held c k x = ap₂ (market x) p h in
      let now : worth s.price (taken s c k x n).held c k x ≡ worth t.price (taken t c k x n).held c k x =
      ap₂ (market x) p (put_both (λ n. n) s.held t.held (box c k x) (box c k x) _ _ (λ q. ap (λ m. m - n) h) h) in
      ap₂ (λ (m n : ℕ). m - n) before now

  paid_alike : (side a k x b n : ℕ) → answer T s (seize side a k x b n) ≡ 0 → c ≡ b →
      ((paid_row side k (leaving s (taken s a k x n) a k x) (s.rows b)).declared.customer_margin ≡ (paid_row side k (leaving t (taken t a k x n) a k x) (t.rows b)).declared.customer_margin) ×
      ((paid_row side k (leaving s (taken s a k x n) a k x) (s.rows b)).declared.customer_debt ≡ (paid_row side k (leaving t (taken t a k x n) a k x) (t.rows b)).declared.customer_debt)
  paid_alike side a k x b n e q = go (eqb side 0) refl
    where
      al : Allowed s side a k x b n
      al = allowed T s side a k x b n e

      vs : ℕ
      vs = leaving s (taken s a k x n) a k x

      vt : ℕ
      vt = leaving t (taken t a k x n) a k x

      m : (s.rows b).declared.customer_margin ≡ (t.rows b).declared.customer_margin
      m = subst (λ i. (s.rows i).declared.customer_margin ≡ (t.rows i).declared.customer_margin) q l.margin_alike

      d : (s.rows b).declared.customer_debt ≡ (t.rows b).declared.customer_debt
      d = subst (λ i. (s.rows i).declared.customer_debt ≡ (t.rows i).declared.customer_debt) q l.debt_alike

      go : (z : Bool) → eqb side 0 ≡ z → ((paid_row side k vs (s.rows b)).declared.customer_margin ≡ (paid_row side k vt (t.rows b)).declared.customer_margin) × ((paid_row side k vs (s.rows b)).declared.customer_debt ≡ (paid_row side k vt (t.rows b)).declared.customer_debt)
      go true z =
          let p = or_parts (house a) (not (eqb a b)) (rw z at al.sides_ok) in
          let f : c ≡ a = q ∙ sym (eqb-true a b (not-false (eqb a b) p.1)) in
          let w = leaving_alike k x n (pocket_low a k al.pocket_ok) al.asset_ok in
          let v : vs ≡ vt = subst (λ i. leaving s (taken s i k x n) i k x ≡ leaving t (taken t i k x n) i k x) f w in
          (ap₂ (λ (m v : ℕ). cond (eqb side 0 && eqb k 1) (m - v) m) m v, ap₂ (λ (m v : ℕ). cond (eqb side 0) (m - v) m) d v)
      go false z = (rw z m, rw z d)

  both : (o : Order) → answer T s o ≡ 0 → Alike c (effect s o) (effect t o)
  both (opening a p) e = record {
    opened_alike = put_both (λ o. o) s.opened t.opened a c (Some p) (Some p) (λ q. refl) l.opened_alike;
    price_alike = l.price_alike;
    held_alike = l.held_alike;
    margin_alike = l.margin_alike;
    debt_alike = l.debt_alike;
  }
  both (mark x price haircut) e = record {
    opened_alike = l.opened_alike;
    price_alike = λ y. put_both (λ n. n) s.price t.price x y price price (λ q. refl) (l.price_alike y);
    held_alike = l.held_alike;
    margin_alike = l.margin_alike;
    debt_alike = l.debt_alike;
  }
  both (position a k long short) e = both_row c s t l a _ _ (λ q. (rw q at l.margin_alike, rw q at l.debt_alike))
  both (declare a margin debt due) e = both_row c s t l a _ _ (λ q. (refl, refl))
  both (deposit a k x n) e = both_held c s t l (λ m. m + n) (box a k x)
  both (withdraw a k x n) e = both_held c s t l (λ m. m - n) (box a k x)
  both (suspend p) e = both_standing c s t l p Suspended
  both (settle p) e = both_standing c s t l p Settled
  both (seize side a k x b n) e =
      both_row c (taken s a k x n) (taken t a k x n) (both_held c s t l (λ m. m - n) (box a k x)) b _ _ (paid_alike side a k x b n e)

-- an accepted order that does not concern c leaves what c shows
module _ (T : Terms) (c : ℕ) (s t : State) (l : Alike c s t) where
  none : (o : Order) → answer T s o ≡ 0 → concerns c o ≡ false → Alike c (effect s o) t
  none (opening a p) e n = record {
    opened_alike = put_there s.opened a (Some p) c (λ q. eqb-false a c n (sym q)) ∙ l.opened_alike;
    price_alike = l.price_alike;
    held_alike = l.held_alike;
    margin_alike = l.margin_alike;
    debt_alike = l.debt_alike;
  }
  none (mark x price haircut) e n = absurd (true≢false n)
  none (position a k long short) e n = other_row c s t l a _ n
  none (declare a margin debt due) e n = other_row c s t l a _ n
  none (deposit a k x m) e n =
      let p = passed T s (deposit a k x m) e in
      other_held c s t l a k x _ n (pocket_low a k p.1.0) (ltb-true x assets (not-false _ p.1.1.0))
  none (withdraw a k x m) e n =
      let p = passed T s (withdraw a k x m) e in
      other_held c s t l a k x _ n (pocket_low a k p.1.0) (ltb-true x assets (not-false _ p.1.1.0))
  none (suspend p) e n = other_standing c s t l p Suspended
  none (settle p) e n = other_standing c s t l p Settled
  none (seize side a k x b m) e n =
      let al = allowed T s side a k x b m e in
      let w = or_parts (eqb a c) (eqb b c) n in
      other_row c (taken s a k x m) t (other_held c s t l a k x _ w.0 (pocket_low a k al.pocket_ok) al.asset_ok) b _ w.1

-- the run, and the accepted marks and calls alone
replay : (T : Terms) (c : ℕ) (s t : State) (os : List Order) → Alike c s t → Alike c (run T s os) (fold effect t (accepted_for c (history T s os)))
unfolding run history accepted_for
replay T c s t [] l = l
replay T c s t (o ∷ os) l = go (cases_eq (answer T s o) 0) (concerns c o) refl (λ t l. replay T c (after T s o) t os l)
  where
    rest : State → Type 0
    rest t = Alike c (run T (after T s o) os) (fold effect t (accepted_for c (history T (after T s o) os)))

    go : (answer T s o ≡ 0) ⊎ (answer T s o ≡ 0 → ⊥) → (b : Bool) → concerns c o ≡ b → ((t : State) → Alike c (after T s o) t → rest t) →
        Alike c (run T (after T s o) os) (fold effect t (cond (eqb (answer T s o) 0 && concerns c o) (o ∷ accepted_for c (history T (after T s o) os)) (accepted_for c (history T (after T s o) os))))
    go (inl e) true n more = rw (eq-eqb (answer T s o) 0 e, n) (more (effect t o) (subst (λ z. Alike c z (effect t o)) (sym (done T s o e)) (both T c s t l o e)))
    go (inl e) false n more = rw (eq-eqb (answer T s o) 0 e, n) (more t (subst (λ z. Alike c z t) (sym (done T s o e)) (none T c s t l o e n)))
    go (inr q) b n more = rw (ne_eqb (answer T s o) 0 q) (more t (subst (λ z. Alike c z t) (sym (undone T s o q)) l))

pub alike : (T T' : Terms) (os os' : List Order) (c : ℕ) → accepted_for c (history T made os) ≡ accepted_for c (history T' made os') → ask_customer (run T made os) c ≡ ask_customer (run T' made os') c
alike T T' os os' c e =
    ask_alike c _ _ (replay T c made made os (alike_self c made)) ∙
    ap (λ z. ask_customer (fold effect made z) c) e ∙
    sym (ask_alike c _ _ (replay T' c made made os' (alike_self c made)))

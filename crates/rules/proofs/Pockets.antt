-- What a take does to the values of pockets.
use Rattle.std.proofs.Common.{◌≡◌, ℕ, ◌+◌, ◌-◌, ◌*◌, ◌<◌, ◌≤◌, eqb, refl, ap, le_trans, mul-le-mul_right, le-div_iff_mul-le, div-mul-le_self, arith}
use Rattle.std.proofs.lemmas.Bool.{eq-eqb, ne_eqb, cond_both}
use Rattle.rules.proofs.Sums.{sum_same, sum_lower}
use Rattle.rules.specs.Sizes.{assets, box, pockets, put}
use Rattle.rules.specs.Values.{market, scale}
use Rattle.rules.specs.Figures.{pocket_value, worth}
use Rattle.rules.specs.Orders.{fewer}

pub put_here : {A : Type 0} (f : ℕ → A) (i : ℕ) (x : A) → put f i x i ≡ x
put_here f i x = rw (eq-eqb i i refl) refl

pub put_there : {A : Type 0} (f : ℕ → A) (i : ℕ) (x : A) (j : ℕ) → (j ≡ i → ⊥) → put f i x j ≡ f j
put_there f i x j h = rw (ne_eqb j i h) refl

scale_pos : (x : ℕ) → 0 < scale x
scale_pos x = cond_both (eqb x 0) 1 _ (λ n. 0 < n) (λ e. omega arith) (λ e. cond_both (eqb x 3) 10 10000 (λ n. 0 < n) (λ e. omega arith) (λ e. omega arith))

market_less : (x price m n : ℕ) → m ≤ n → market x price m ≤ market x price n
unfolding market
market_less x price m n h =
    (le-div_iff_mul-le (scale_pos x)).1 (le_trans (div-mul-le_self (m * price) (scale x)) (mul-le-mul_right price h))

pub boxes_apart : (a k x b j y : ℕ) → k < pockets → j < pockets → x < assets → y < assets → box b j y ≡ box a k x → (b ≡ a) × (j ≡ k) × (y ≡ x)
boxes_apart a k x b j y h1 h2 h3 h4 e = omega arith

-- the value that leaves a box
pub worth_left : (price held : ℕ → ℕ) (a k x n : ℕ) → worth price (fewer held (box a k x) n) a k x + (worth price held a k x - worth price (fewer held (box a k x) n) a k x) ≡ worth price held a k x
worth_left price held a k x n =
    let here : worth price (fewer held (box a k x) n) a k x ≡ market x (price x) (held (box a k x) - n) = ap (market x (price x)) (put_here held (box a k x) _) in
    let less = market_less x (price x) (held (box a k x) - n) (held (box a k x)) (omega arith) in
    omega arith

-- n units leave box x of pocket k of account a
module _ (price held : ℕ → ℕ) (a k x n : ℕ) (hk : k < pockets) (hx : x < assets) where
  pub pocket_taken : pocket_value price (fewer held (box a k x) n) a k + (worth price held a k x - worth price (fewer held (box a k x) n) a k x) ≡ pocket_value price held a k
  unfolding pocket_value
  pocket_taken =
      sum_lower assets x _ (worth price (fewer held (box a k x) n) a k) (worth price held a k) hx (worth_left price held a k x n)
      (λ y q. ap (market y (price y)) (put_there held (box a k x) _ (box a k y) (λ e. q (omega arith))))

  pub pocket_other : (b j : ℕ) → j < pockets → (b ≡ a → j ≡ k → ⊥) → pocket_value price (fewer held (box a k x) n) b j ≡ pocket_value price held b j
  unfolding pocket_value
  pocket_other b j hj q =
      sum_same assets _ _ (λ y hy. ap (market y (price y)) (put_there held (box a k x) _ (box b j y)
      (λ e. let z = boxes_apart a k x b j y hk hj hx hy e in q z.0 z.1)))

-- A turn of a loop that adds up a part of some accounts.
use Rattle.std.proofs.Common.{◌≡◌, ℕ, zero, suc, ◌+◌, ◌-◌, ◌≤◌, Bool, true, false, cond, refl, arith}
use Rattle.rules.specs.Sizes.{accounts, sum}
use Rattle.rules.specs.States.{State, is, under}
use Rattle.rules.specs.Figures.{pooled, rest, kept, passed_on, from_customer, over, pool, charge}
use Rattle.rules.proofs.Sums.{sum_more}
use Rattle.figures.specs.declared.parts.Parts.{Parts}
use Rattle.figures.specs.Parts.{parts_of, both_parts, parts_below}

-- an account that counts, and one that does not
module _ (counts : ℕ → Bool) (f : ℕ → ℕ) (n s : ℕ) (e : s ≡ sum n (λ a. cond (counts a) (f a) 0)) where
  pub added : (v : ℕ) → counts n ≡ true → v ≡ f n → s + v ≡ sum (n + 1) (λ a. cond (counts a) (f a) 0)
  added v t h = rw (sum_more, t, e, h) refl

  pub passed : counts n ≡ false → s ≡ sum (n + 1) (λ a. cond (counts a) (f a) 0)
  passed t = rw (sum_more, t, e) (omega arith)

-- parts are the same where each of the four is
same : {a b c d a' b' c' d' : ℕ} → a ≡ a' → b ≡ b' → c ≡ c' → d ≡ d' →
    ◌≡◌ {A = Parts} (record { pool = a; charge = b; kept = c; passed_on = d }) (record { pool = a'; charge = b'; kept = c'; passed_on = d' })
same p q r s = cc

-- a turn of the loop over all accounts, with an account of the participant and with another
module _ (s : State) (participant n : ℕ) (sums : Parts) (e : sums ≡ parts_below s participant n) where
  pub parts_added : (more : Parts) → more ≡ parts_of s n → is (under s.opened n) participant ≡ true → both_parts sums more ≡ parts_below s participant (n + 1)
  parts_added more h t =
      let mine : ℕ → Bool = λ a. is (under s.opened a) participant in
      rw (e, h) (same (added mine (pooled s) n _ refl _ t refl) (added mine (rest s) n _ refl _ t refl) (added mine (from_customer (kept s)) n _ refl _ t refl) (added mine (from_customer (passed_on s)) n _ refl _ t refl))

  pub parts_passed : is (under s.opened n) participant ≡ false → sums ≡ parts_below s participant (n + 1)
  parts_passed t =
      let mine : ℕ → Bool = λ a. is (under s.opened a) participant in
      rw e (same (passed mine (pooled s) n _ refl t) (passed mine (rest s) n _ refl t) (passed mine (from_customer (kept s)) n _ refl t) (passed mine (from_customer (passed_on s)) n _ refl t))

-- the sums over fewer accounts are no larger than those over all
sum_front : (more n : ℕ) (f : ℕ → ℕ) → sum n f ≤ sum (n + more) f
sum_front zero n f = let e : n + 0 ≡ n = omega arith in rw e (omega arith)
sum_front (suc more) n f =
    let e : n + suc more ≡ n + more + 1 = omega arith in
    rw (e, sum_more) (omega (arith, sum_front more n f))

pub below_all : (s : State) (participant n : ℕ) → n ≤ accounts →
    ((parts_below s participant n).pool ≤ pool s participant) × ((parts_below s participant n).charge ≤ charge s participant)
unfolding pool charge over
below_all s participant n l =
    let e : n + (accounts - n) ≡ accounts = omega arith in
    let part : (f : ℕ → ℕ) → sum n f ≤ sum accounts f = λ f. rw e at (sum_front (accounts - n) n f) in
    (part _, part _)

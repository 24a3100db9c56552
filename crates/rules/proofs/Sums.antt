-- Sums over an index.
use Rattle.std.proofs.Common.{◌≡◌, ℕ, zero, suc, ◌+◌, ◌*◌, ◌<◌, ◌≤◌, ◌⊎◌, refl, ap, inl, inr, suc-mul, add-one, arith}
use Rattle.std.proofs.lemmas.Bool.{cases_eq}
use Rattle.rules.specs.Sizes.{sum}

pub sum_none : (f : ℕ → ℕ) → sum 0 f ≡ 0
unfolding sum
sum_none f = refl

-- one more term
pub sum_more : (n : ℕ) (f : ℕ → ℕ) → sum (n + 1) f ≡ sum n f + f n
unfolding sum
sum_more n f = rw add-one refl

-- a turn of a loop that adds up: v is added where s was the sum so far
pub sum_turn : (n s v : ℕ) (f : ℕ → ℕ) → s ≡ sum n f → v ≡ f n → s + v ≡ sum (n + 1) f
sum_turn n s v f e h = rw sum_more (cc)

-- terms that are all 0, or none above m
pub sum_zero : (n : ℕ) (f : ℕ → ℕ) → ((k : ℕ) → k < n → f k ≡ 0) → sum n f ≡ 0
unfolding sum
sum_zero zero f h = refl
sum_zero (suc n) f h = let front = sum_zero n f (λ k b. h k (omega arith)) in let back = h n (omega arith) in omega arith

pub sum_most : (n m : ℕ) (f : ℕ → ℕ) → ((k : ℕ) → k < n → f k ≤ m) → sum n f ≤ n * m
unfolding sum
sum_most zero m f h = omega arith
sum_most (suc n) m f h = let front = sum_most n m f (λ k b. h k (omega arith)) in let back = h n (omega arith) in omega (arith, suc-mul n m)

-- two sums with the same terms, and a sum of sums
pub sum_same : (n : ℕ) (f g : ℕ → ℕ) → ((k : ℕ) → k < n → f k ≡ g k) → sum n f ≡ sum n g
unfolding sum
sum_same zero f g h = refl
sum_same (suc n) f g h = let front = sum_same n f g (λ k b. h k (omega arith)) in let back = h n (omega arith) in omega arith

pub sum_add : (n : ℕ) (f g : ℕ → ℕ) → sum n (λ k. f k + g k) ≡ sum n f + sum n g
unfolding sum
sum_add zero f g = refl
sum_add (suc n) f g = let front = sum_add n f g in omega arith

-- one term is lower by v, and no other differs
pub sum_lower : (n i v : ℕ) (f g : ℕ → ℕ) → i < n → f i + v ≡ g i → ((k : ℕ) → (k ≡ i → ⊥) → f k ≡ g k) → sum n f + v ≡ sum n g
unfolding sum
sum_lower zero i v f g b e h = omega arith
sum_lower (suc n) i v f g b e h = go (λ l. sum_lower n i v f g l e h) (cases_eq n i)
  where
    go : (i < n → sum n f + v ≡ sum n g) → (n ≡ i) ⊎ (n ≡ i → ⊥) → sum n f + f n + v ≡ sum n g + g n
    go more (inl q) =
        let front = sum_same n f g (λ k l. h k (λ r. omega arith)) in
        let back : f n + v ≡ g n = rw q e in
        omega arith
    go more (inr q) =
        let front = more (omega arith) in
        let back = h n q in
        omega arith

-- no term above the other sum's
pub sum_less : (n : ℕ) (f g : ℕ → ℕ) → ((k : ℕ) → k < n → f k ≤ g k) → sum n f ≤ sum n g
unfolding sum
sum_less zero f g h = omega arith
sum_less (suc n) f g h = let front = sum_less n f g (λ k b. h k (omega arith)) in let back = h n (omega arith) in omega arith

-- no term is above its sum
pub sum_member : (n i : ℕ) (f : ℕ → ℕ) → i < n → f i ≤ sum n f
unfolding sum
sum_member zero i f b = omega arith
sum_member (suc n) i f b = go (sum_member n i f) (cases_eq n i)
  where
    go : (i < n → f i ≤ sum n f) → (n ≡ i) ⊎ (n ≡ i → ⊥) → f i ≤ sum n f + f n
    go front (inl q) = let here : f n ≡ f i = ap f q in omega arith
    go front (inr q) = let before = front (omega arith) in omega arith

-- two sums that differ in one term differ as these terms do
pub sum_swap : (n i : ℕ) (f g : ℕ → ℕ) → i < n → ((k : ℕ) → (k ≡ i → ⊥) → f k ≡ g k) → sum n f + g i ≡ sum n g + f i
unfolding sum
sum_swap zero i f g b h = omega arith
sum_swap (suc n) i f g b h = go (λ l. sum_swap n i f g l h) (cases_eq n i)
  where
    go : (i < n → sum n f + g i ≡ sum n g + f i) → (n ≡ i) ⊎ (n ≡ i → ⊥) → sum n f + f n + g i ≡ sum n g + g n + f i
    go more (inl q) =
        let front = sum_same n f g (λ k l. h k (λ r. omega arith)) in
        let f_here : f n ≡ f i = ap f q in
        let g_here : g n ≡ g i = ap g q in
        omega arith
    go more (inr q) =
        let front = more (omega arith) in
        let back = h n q in
        omega arith

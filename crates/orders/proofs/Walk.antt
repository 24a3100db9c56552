-- A walk over a file, order by order: what is read first, and what after it.
use Rattle.std.proofs.Common.{◌≡◌, ℕ, zero, suc, ◌+◌, ◌-◌, ◌<◌, ◌≤◌, true, false, cond, ltb, ◌⊎◌, List, [], ◌∷◌, length, take, drop, Some, None, Ok, Err, Option, Result, refl, ap, inl, inr, ⊎_elim, arith}
use Rattle.std.proofs.lemmas.List.{length-drop}
use Rattle.std.proofs.lemmas.Bool.{cases_lt, lt-ltb, le-ltb, cond-false}
use Rattle.rules.specs.declared.refusal.Refusal.{Refusal}
use Rattle.rules.specs.declared.refusal.Refusal.TheVariants.{UnknownKind, BodyCutShort}
use Rattle.rules.specs.Orders.{Order}
use Rattle.orders.specs.Kinds.{Kind, size, kinds, found, order_in}
use Rattle.orders.specs.Reading.{Reading, most_bytes, fault, order_at, prepended, onward, orders_from, reading}
use Rattle.orders.specs.Walks.{first_order}

-- A TEST OF TWO NUMBERS comes before what else is read.
module _ {A E : Type 0} (m n : ℕ) (e : E) where
  pub passed : (r : Result A E) (x : A) → cond (ltb m n) (Err e) r ≡ Ok x → (n ≤ m) × (r ≡ Ok x)
  passed r x h =
      ⊎_elim
      (λ (l : m < n). let t : ltb m n ≡ true = lt-ltb _ _ l in let d = rw t at h in absurd cc)
      (λ (l : n ≤ m). let t : ltb m n ≡ false = le-ltb _ _ l in (l, rw t at h))
      (cases_lt m n)

  pub failed : (r : Result A E) (f : E) → cond (ltb m n) (Err e) r ≡ Err f → ((m < n) × (f ≡ e)) ⊎ ((n ≤ m) × (r ≡ Err f))
  failed r f h =
      ⊎_elim
      (λ (l : m < n). let t : ltb m n ≡ true = lt-ltb _ _ l in let d = rw t at h in inl (l, cc))
      (λ (l : n ≤ m). let t : ltb m n ≡ false = le-ltb _ _ l in inr (l, rw t at h))
      (cases_lt m n)

-- THE FIRST ORDER is of a kind and has all bytes of its body.
pub first_whole : (kind : Option Kind) (bytes : List ℕ) (first : Order × List ℕ) → first_order kind bytes ≡ Ok first
    → (of : Kind) × (kind ≡ Some of) × (size of ≤ length bytes) × (first ≡ (order_in of (take (size of) bytes), drop (size of) bytes))
first_whole None bytes first e = absurd cc
first_whole (Some of) bytes first e = let p = passed _ _ _ _ _ e in let q = p.1 in (of, refl, p.0, cc)

-- Or there is something wrong with it.
pub first_wrong : (kind : Option Kind) (bytes : List ℕ) (refusal : Refusal) → first_order kind bytes ≡ Err refusal
    → ((kind ≡ None) × (refusal ≡ UnknownKind)) ⊎ ((of : Kind) × (kind ≡ Some of) × (length bytes < size of) × (refusal ≡ BodyCutShort))
first_wrong None bytes refusal e = inl (refl, cc)
first_wrong (Some of) bytes refusal e =
    ⊎_elim
    (λ p. inr (of, refl, p.0, p.1))
    (λ p. let q = p.1 in absurd cc)
    (failed _ _ _ _ _ e)

-- ONE STEP. The first order and those that are read after it, where it ends; or the fault at the place.
abbrev pub stepped : (place : ℕ) (bytes : List ℕ) → Result (Order × List ℕ) Refusal → Reading
stepped place bytes (Ok first) = prepended first.0 (orders_from (place + (length bytes - length first.1)) 0 first.1)
stepped place bytes (Err refusal) = Err (fault refusal place)

-- a body is passed over
passed_over : (place n : ℕ) (bytes : List ℕ) → orders_from place n bytes ≡ orders_from (place + n) 0 (drop n bytes)
unfolding orders_from
passed_over place zero [] = refl
passed_over place (suc n) [] = refl
passed_over place zero (byte ∷ bytes) = let e : place + 0 ≡ place = omega arith in rw e
passed_over place (suc n) (byte ∷ bytes) = let e : place + suc n ≡ place + 1 + n = omega arith in rw e (passed_over (place + 1) n bytes)

step_of : (place byte : ℕ) (bytes : List ℕ) (kind : Option Kind)
    → onward (order_at place kind bytes) (λ n. orders_from (place + 1) n bytes) ≡ stepped place (byte ∷ bytes) (first_order kind bytes)
step_of place byte bytes None = refl
step_of place byte bytes (Some kind) =
    ⊎_elim
    (λ (h : length bytes < size kind). let t : ltb (length bytes) (size kind) ≡ true = lt-ltb _ _ h in rw t refl)
    (λ (h : size kind ≤ length bytes).
    let t : ltb (length bytes) (size kind) ≡ false = le-ltb _ _ h in
    let p : place + (length (byte ∷ bytes) - length (drop (size kind) bytes)) ≡ place + 1 + size kind = omega (arith, length-drop (size kind) bytes) in
    rw (t, p) (ap (prepended (order_in kind (take (size kind) bytes))) (passed_over (place + 1) (size kind) bytes)))
    (cases_lt (length bytes) (size kind))

-- some bytes begin with a byte, and r is what is read first
pub one_step : (place byte : ℕ) (whole bytes : List ℕ) → whole ≡ byte ∷ bytes → (r : Result (Order × List ℕ) Refusal) → r ≡ first_order (found byte kinds) bytes
    → orders_from place 0 whole ≡ stepped place whole r
unfolding orders_from
one_step place byte whole bytes split r e = rw (split, e) (step_of place byte bytes (found byte kinds))

pub step_on : (place byte : ℕ) (whole bytes : List ℕ) (order : Order) (rest : List ℕ) → whole ≡ byte ∷ bytes → Ok (order, rest) ≡ first_order (found byte kinds) bytes
    → orders_from place 0 whole ≡ prepended order (orders_from (place + (length whole - length rest)) 0 rest)
step_on place byte whole bytes order rest split e = one_step place byte whole bytes split (Ok (order, rest)) e

pub none_left : (place : ℕ) (bytes : List ℕ) → length bytes ≡ 0 → orders_from place 0 bytes ≡ Ok []
unfolding orders_from
none_left place [] h = refl
none_left place (byte ∷ bytes) h = absurd (omega arith)

-- a reading that begins with an order
parted : (order : Order) (r : Reading) (orders : List Order) → prepended order r ≡ Ok orders → (others : List Order) × (r ≡ Ok others) × (orders ≡ order ∷ others)
parted order (Ok others) orders e = (others, refl, cc)
parted order (Err f) orders e = absurd cc

-- a step that led to orders gave the first of them
pub stepped_ok : (place : ℕ) (bytes : List ℕ) (r : Result (Order × List ℕ) Refusal) (orders : List Order) → stepped place bytes r ≡ Ok orders
    → (first : Order × List ℕ) × (others : List Order) × (r ≡ Ok first) × (orders ≡ first.0 ∷ others)
    × (orders_from (place + (length bytes - length first.1)) 0 first.1 ≡ Ok others)
stepped_ok place bytes (Err refusal) orders e = absurd cc
stepped_ok place bytes (Ok first) orders e =
    let p = parted first.0 (orders_from (place + (length bytes - length first.1)) 0 first.1) orders e in (first, p.0, refl, p.2, p.1)

-- WHOLE FILES. One that is not too long is read from its beginning, and one that is read is not too long.
pub short_reads : (bytes : List ℕ) → length bytes ≤ most_bytes → reading bytes ≡ orders_from 0 0 bytes
short_reads bytes h = cond-false _ _ _ (le-ltb _ _ h)

pub accepted_short : (bytes : List ℕ) (orders : List Order) → reading bytes ≡ Ok orders → (length bytes ≤ most_bytes) × (orders_from 0 0 bytes ≡ Ok orders)
accepted_short bytes orders e = passed _ _ _ _ _ e

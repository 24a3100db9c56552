-- No file has more orders than the answer list has places: an order takes two bytes or more.
use Rattle.std.proofs.Common.{◌≡◌, ℕ, zero, suc, ◌+◌, ◌*◌, ◌≤◌, true, false, cond, eqb, ltb, List, [], ◌∷◌, length, take, Some, None, Ok, Err, Option, Result, refl, zero-le, arith, rules, All, IfSome}
use Rattle.std.proofs.lemmas.Bool.{ltb-false, le-ltb, cond-false, cond_both}
use Rattle.std.proofs.lemmas.List.Elements.{All-head, All-tail}
use Rattle.rules.specs.Orders.{Order}
use Rattle.orders.specs.declared.fault.FileFault.{FileFault}
use Rattle.orders.specs.Kinds.{Kind, size, kinds, found, order_in}
use Rattle.orders.specs.Reading.{Reading, reading, most_bytes, order_at, ordered, prepended, onward, orders_from}
use Rattle.orders.specs.Runs.{with_places, admitted}

-- how many orders are read; of a fault, none
abbrev pub orders_read : Reading → ℕ
orders_read (Ok orders) = length orders
orders_read (Err fault) = 0

-- a body has a byte or more
abbrev Bodied : Kind → Type 0
Bodied kind = 1 ≤ size kind

kinds_bodied : All Bodied kinds
kinds_bodied = search rules

found_bodied : (kind_byte : ℕ) (all : List Kind) → All Bodied all → IfSome (found kind_byte all) Bodied
found_bodied kind_byte [] h = tt
found_bodied kind_byte (kind ∷ rest) h =
    elim (eqb kind_byte kind.number) as (λ t. IfSome (cond t (Some kind) (found kind_byte rest)) Bodied) [
      | true ↦ All-head Bodied kind rest h
      | false ↦ found_bodied kind_byte rest (All-tail Bodied kind rest h)
    ]

-- an order is one more
counted_once : (order : Order) (r : Reading) → orders_read (prepended order r) ≤ suc (orders_read r)
counted_once order (Ok orders) = omega arith
counted_once order (Err fault) = omega arith

module _ (place : ℕ) (bytes : List ℕ) (others : (n : ℕ) → n ≤ length bytes → 2 * orders_read (orders_from (place + 1) n bytes) + n ≤ length bytes) where
  after_kind : (kind : Option Kind) → IfSome kind Bodied → 2 * orders_read (onward (order_at place kind bytes) (λ body. orders_from (place + 1) body bytes)) ≤ suc (length bytes)
  after_kind None h = omega arith
  after_kind (Some kind) h =
      cond_both (ltb (length bytes) (size kind)) _ _ (λ (r : Result (Kind × List ℕ) FileFault). 2 * orders_read (onward (ordered r) (λ body. orders_from (place + 1) body bytes)) ≤ suc (length bytes)) (λ e. omega arith)
      (λ e.
      let whole : size kind ≤ length bytes = ltb-false _ _ e in
      omega (arith, others (size kind) whole, counted_once (order_in kind (take (size kind) bytes)) (orders_from (place + 1) (size kind) bytes)))

-- two bytes or more an order, beside what is passed over
pub two_bytes_each : (place passed : ℕ) (bytes : List ℕ) → passed ≤ length bytes → 2 * orders_read (orders_from place passed bytes) + passed ≤ length bytes
unfolding orders_from
two_bytes_each place zero [] h = omega arith
two_bytes_each place (suc passed) [] h = omega arith
two_bytes_each place zero (kind ∷ bytes) h = omega (arith, after_kind place bytes (λ n. two_bytes_each (place + 1) n bytes) (found kind kinds) (found_bodied kind kinds kinds_bodied))
two_bytes_each place (suc passed) (byte ∷ bytes) h = let rest : passed ≤ length bytes = omega arith in omega (arith, two_bytes_each (place + 1) passed bytes rest)

-- PLACES. With a place for every order, the list is not what a file is refused for.
enough : (places : ℕ) (r : Reading) → orders_read r ≤ places → with_places places r ≡ r
enough places (Ok orders) h = cond-false _ _ _ (le-ltb _ _ h)
enough places (Err fault) h = refl

-- as many places as the program's list has
abbrev pub places : ℕ
places = 32768

pub few_orders : (file : List ℕ) → orders_read (reading file) ≤ places
few_orders file =
    cond_both (ltb most_bytes (length file)) _ _ (λ (r : Reading). orders_read r ≤ places) (λ e. omega arith)
    (λ e. omega (arith, ltb-false _ _ e, two_bytes_each 0 0 file zero-le))

pub never_too_few : (file : List ℕ) → admitted file places ≡ reading file
never_too_few file = enough places (reading file) (few_orders file)

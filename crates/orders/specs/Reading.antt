-- What a list of bytes reads as: a list of orders, or the first fault with its place.
use Rattle.std.specs.Prelude.{ℕ, zero, suc, ◌+◌, cond, List, [], ◌∷◌, length, take, Some, None, Ok, Err, Option, Result, nat_lt}
use Rattle.rules.specs.declared.refusal.Refusal.{Refusal}
use Rattle.rules.specs.declared.refusal.Refusal.TheVariants.{FileTooLong, UnknownKind, BodyCutShort}
use Rattle.rules.specs.Orders.{Order}
use Rattle.orders.specs.declared.fault.FileFault.{FileFault}
use Rattle.orders.specs.Kinds.{Kind, size, kinds, found, order_in}

-- the most bytes that a file may have
abbrev pub most_bytes : ℕ
most_bytes = 65536

-- a refusal at a place
abbrev pub fault : Refusal → (place : ℕ) → FileFault
fault refusal place = record { refusal = refusal; place = place }

-- what is read: orders, or a fault
abbrev pub Reading : Type 0
Reading = Result (List Order) FileFault

-- What stands at a place, given what the kind byte there stands for and the bytes that follow it: a kind and a body of
-- that kind's size. A fault has the place of the kind byte.
abbrev pub entry_at : (place : ℕ) → Option Kind → (bytes : List ℕ) → Result (Kind × List ℕ) FileFault
entry_at place None bytes = Err (fault UnknownKind place)
entry_at place (Some kind) bytes = cond (nat_lt (length bytes) (size kind)) (Err (fault BodyCutShort place)) (Ok (kind, take (size kind) bytes))

-- the order that it is, with the size of its body
abbrev pub ordered : Result (Kind × List ℕ) FileFault → Result (Order × ℕ) FileFault
ordered (Ok entry) = Ok (order_in entry.0 entry.1, size entry.0)
ordered (Err f) = Err f

abbrev pub order_at : (place : ℕ) → Option Kind → (bytes : List ℕ) → Result (Order × ℕ) FileFault
order_at place kind bytes = ordered (entry_at place kind bytes)

-- an order before those that are read after it
abbrev pub prepended : Order → Reading → Reading
prepended order (Ok orders) = Ok (order ∷ orders)
prepended order (Err f) = Err f

abbrev pub onward : Result (Order × ℕ) FileFault → (after : ℕ → Reading) → Reading
onward (Ok first) after = prepended first.0 (after first.1)
onward (Err f) after = Err f

-- The orders in some bytes, of which the first stands at a place of the file. The first `passed` of them are what is
-- left of a body that was read already, and are passed over.
unfoldable pub orders_from : (place passed : ℕ) (bytes : List ℕ) → Reading
orders_from place passed [] = Ok []
orders_from place zero (kind ∷ bytes) = onward (order_at place (found kind kinds) bytes) (λ body. orders_from (place + 1) body bytes)
orders_from place (suc passed) (byte ∷ bytes) = orders_from (place + 1) passed bytes

-- A whole file: too long, or else its orders or its first fault.
abbrev pub reading : (file : List ℕ) → Reading
reading file = cond (nat_lt most_bytes (length file)) (Err (fault FileTooLong most_bytes)) (orders_from 0 0 file)

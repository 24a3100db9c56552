-- A walk over a file, order by order, as the reader makes it.
use Rattle.std.specs.Prelude.{◌≡◌, ℕ, ◌+◌, cond, List, [], length, take, drop, Some, None, Ok, Err, Option, Result, nat_lt}
use Rattle.std.specs.Borrow.{Bor}
use Rattle.rules.specs.declared.refusal.Refusal.{Refusal}
use Rattle.rules.specs.declared.refusal.Refusal.TheVariants.{UnknownKind, BodyCutShort}
use Rattle.rules.specs.Orders.{Order}
use Rattle.orders.specs.declared.fault.FileFault.{FileFault}
use Rattle.orders.specs.declared.file_order.FileOrder.{FileOrder}
use Rattle.orders.specs.declared.reading.OrderFile.{OrderFile}
use Rattle.orders.specs.declared.reading.Orders.{Orders}
use Rattle.orders.specs.Kinds.{Kind, size, order_in}
use Rattle.orders.specs.Reading.{Reading, prepended, orders_from}
use Rattle.orders.specs.RawOrders.{meant}

-- The order that some bytes begin with and the bytes after it, or what is wrong with it, given what its kind byte stands
-- for and the bytes that follow that.
abbrev pub first_order : Option Kind → (bytes : List ℕ) → Result (Order × List ℕ) Refusal
first_order None bytes = Err UnknownKind
first_order (Some kind) bytes = cond (nat_lt (length bytes) (size kind)) (Err BodyCutShort) (Ok (order_in kind (take (size kind) bytes), drop (size kind) bytes))

-- the same as the reader has them
abbrev pub first_read : Result (FileOrder × Bor (List ℕ)) Refusal → Result (Order × List ℕ) Refusal
first_read (Ok first) = Ok (meant first.0.raw, first.1.now)
first_read (Err refusal) = Err refusal

-- what a file that is not too long reads as, and what the bytes of any file do once it is known whether they are such a one
abbrev pub orders_in : OrderFile → Reading
orders_in file = orders_from 0 0 file.bytes.now

abbrev pub file_read : Result OrderFile FileFault → Reading
file_read (Ok file) = orders_in file
file_read (Err f) = Err f

-- what is left to be read, where an order begins
abbrev pub left : Orders → Reading
left orders = orders_from orders.place 0 orders.rest.now

-- One step of the walk: there was no order left, or the first that was left is given and the others are left, or the
-- fault is given, and nothing more.
abbrev pub Gives : Orders → Option (Result FileOrder FileFault) → Orders → Type 0
Gives before None after = (left before ≡ Ok []) × (left after ≡ Ok [])
Gives before (Some (Ok order)) after = left before ≡ prepended (meant order.raw) (left after)
Gives before (Some (Err f)) after = (left before ≡ Err f) × (left after ≡ Ok [])

-- how many orders are read, n having been read already
abbrev pub counted : (n : ℕ) → Reading → Result ℕ FileFault
counted n (Ok orders) = Ok (n + length orders)
counted n (Err f) = Err f

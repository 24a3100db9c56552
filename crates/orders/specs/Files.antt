-- Files of orders: the bytes that write orders down.
use Rattle.std.specs.Prelude.{◌≡◌, ℕ, ◌^◌, ◌<◌, ◌≤◌, List, [], ◌∷◌, ◌++◌, length}
use Rattle.std.specs.Int.Digits.{AllBelowBase}
use Rattle.std.specs.List.{flat_map}
use Rattle.rules.specs.Orders.{Order, opening, mark, position, declare, deposit, withdraw, suspend, settle, seize}
use Rattle.orders.specs.Kinds.{Kind, byte_values, bytes_of, open_kind, mark_kind, position_kind, declare_kind, deposit_kind, withdraw_kind, suspend_kind, settle_kind, seize_kind}
use Rattle.orders.specs.Reading.{most_bytes}

-- the kind of an order, and its numbers in the order of the kind's fields
abbrev pub kind_of : Order → Kind
kind_of (opening account participant) = open_kind
kind_of (mark asset price haircut) = mark_kind
kind_of (position account contract long short) = position_kind
kind_of (declare account customer_margin customer_debt participant_debt) = declare_kind
kind_of (deposit account pocket asset units) = deposit_kind
kind_of (withdraw account pocket asset units) = withdraw_kind
kind_of (suspend participant) = suspend_kind
kind_of (settle participant) = settle_kind
kind_of (seize side paying pocket asset paid units) = seize_kind

abbrev pub numbers_of : Order → List ℕ
numbers_of (opening account participant) = account ∷ participant ∷ []
numbers_of (mark asset price haircut) = asset ∷ price ∷ haircut ∷ []
numbers_of (position account contract long short) = account ∷ contract ∷ long ∷ short ∷ []
numbers_of (declare account customer_margin customer_debt participant_debt) = account ∷ customer_margin ∷ customer_debt ∷ participant_debt ∷ []
numbers_of (deposit account pocket asset units) = account ∷ pocket ∷ asset ∷ units ∷ []
numbers_of (withdraw account pocket asset units) = account ∷ pocket ∷ asset ∷ units ∷ []
numbers_of (suspend participant) = participant ∷ []
numbers_of (settle participant) = participant ∷ []
numbers_of (seize side paying pocket asset paid units) = side ∷ paying ∷ pocket ∷ asset ∷ paid ∷ units ∷ []

-- numbers one after the other, each in its field, and whether each fits its field
abbrev pub fields : (widths numbers : List ℕ) → List ℕ
fields (width ∷ widths) (n ∷ numbers) = bytes_of width n ++ fields widths numbers
fields (width ∷ widths) [] = []
fields [] numbers = []

abbrev pub Fitting : (widths numbers : List ℕ) → Type 0
Fitting (width ∷ widths) (n ∷ numbers) = (n < byte_values ^ width) × Fitting widths numbers
Fitting (width ∷ widths) [] = ⊥
Fitting [] (n ∷ numbers) = ⊥
Fitting [] [] = Unit

-- an order written down: its kind byte, and then its body
unfoldable pub written : Order → List ℕ
written order = (kind_of order).number ∷ fields (kind_of order).widths (numbers_of order)

abbrev pub Fits : Order → Type 0
Fits order = Fitting (kind_of order).widths (numbers_of order)

-- orders written down one after the other
unfoldable pub file_of : List Order → List ℕ
file_of orders = flat_map written orders

abbrev pub AllFit : List Order → Type 0
AllFit [] = Unit
AllFit (order ∷ orders) = Fits order × AllFit orders

-- These bytes are the file of these orders: the orders written down one after the other, every number in its
-- field, and no more bytes than a file may have.
pub record FileOf (bytes : List ℕ) (orders : List Order) : Type 0 where
  pub written_down : bytes ≡ file_of orders
  pub fit : AllFit orders
  pub short : length bytes ≤ most_bytes

-- a byte is a number below 256
abbrev pub Bytes : List ℕ → Type 0
Bytes bytes = AllBelowBase byte_values bytes

-- The kinds of order that a file can hold, and how the numbers of an order are laid out in bytes. An order in a file is
-- one byte for its kind and then its body, which is its fields one after the other.
use Rattle.std.specs.Prelude.{ℕ, zero, suc, ◌+◌, ◌/◌, ◌%◌, cond, List, [], ◌∷◌, ◌++◌, take, drop, Some, None, Option, ◌==◌, slice_index}
use Rattle.std.specs.Int.Digits.{number_from_digits as number}
use Rattle.rules.specs.Orders.{Order, opening, mark, position, declare, deposit, withdraw, suspend, settle, seize}

-- FIELDS. A field of some width is a number in that many bytes, highest byte first.

-- how many values a byte has
abbrev pub byte_values : ℕ
byte_values = 256

-- the number in the field that begins at a place of a body (`number` takes digits of some base, the highest first)
abbrev pub number_at : (body : List ℕ) (from width : ℕ) → ℕ
number_at body from width = number byte_values (take width (drop from body))

-- the bytes of a field that holds a number: those of the number without its lowest byte, and then that byte
abbrev pub bytes_of : (width n : ℕ) → List ℕ
bytes_of zero n = []
bytes_of (suc width) n = bytes_of width (n / byte_values) ++ (n % byte_values ∷ [])

-- KINDS. A kind has the number that its kind byte holds, the widths of its fields in bytes, and the order that the
-- numbers in these fields give.
pub record Kind : Type 0 where
  pub number : ℕ
  pub widths : List ℕ
  pub order : (field : ℕ → ℕ) → Order

-- how many bytes fields of some widths take, and a body of a kind
abbrev pub total : (widths : List ℕ) → ℕ
total [] = 0
total (width ∷ widths) = width + total widths

abbrev pub size : Kind → ℕ
size kind = total kind.widths

-- The table of kinds. Accounts, participants, pockets, assets, contracts and sides take one byte; a price takes 4, a
-- haircut 2, a count 4, and an amount or a number of units 8.
abbrev pub open_kind : Kind
open_kind = record { number = 1; widths = 1 ∷ 1 ∷ []; order = λ f. opening (f 0) (f 1) }

abbrev pub mark_kind : Kind
mark_kind = record { number = 2; widths = 1 ∷ 4 ∷ 2 ∷ []; order = λ f. mark (f 0) (f 1) (f 2) }

abbrev pub position_kind : Kind
position_kind = record { number = 3; widths = 1 ∷ 1 ∷ 4 ∷ 4 ∷ []; order = λ f. position (f 0) (f 1) (f 2) (f 3) }

abbrev pub declare_kind : Kind
declare_kind = record { number = 4; widths = 1 ∷ 8 ∷ 8 ∷ 8 ∷ []; order = λ f. declare (f 0) (f 1) (f 2) (f 3) }

abbrev pub deposit_kind : Kind
deposit_kind = record { number = 5; widths = 1 ∷ 1 ∷ 1 ∷ 8 ∷ []; order = λ f. deposit (f 0) (f 1) (f 2) (f 3) }

abbrev pub withdraw_kind : Kind
withdraw_kind = record { number = 6; widths = 1 ∷ 1 ∷ 1 ∷ 8 ∷ []; order = λ f. withdraw (f 0) (f 1) (f 2) (f 3) }

abbrev pub suspend_kind : Kind
suspend_kind = record { number = 7; widths = 1 ∷ []; order = λ f. suspend (f 0) }

abbrev pub settle_kind : Kind
settle_kind = record { number = 8; widths = 1 ∷ []; order = λ f. settle (f 0) }

abbrev pub seize_kind : Kind
seize_kind = record { number = 9; widths = 1 ∷ 1 ∷ 1 ∷ 1 ∷ 1 ∷ 8 ∷ []; order = λ f. seize (f 0) (f 1) (f 2) (f 3) (f 4) (f 5) }

abbrev pub kinds : List Kind
kinds =
    open_kind ∷ mark_kind ∷ position_kind ∷ declare_kind ∷ deposit_kind ∷ withdraw_kind ∷ suspend_kind ∷ settle_kind ∷ seize_kind ∷ []

-- the kind among some that a kind byte stands for, if any
abbrev pub found : (kind_byte : ℕ) → List Kind → Option Kind
found kind_byte [] = None
found kind_byte (kind ∷ rest) = cond (kind_byte == kind.number) (Some kind) (found kind_byte rest)

-- the numbers in a body's fields from a place on, by their widths
abbrev pub numbers : (from : ℕ) (widths body : List ℕ) → List ℕ
numbers from [] body = []
numbers from (width ∷ widths) body = number_at body from width ∷ numbers (from + width) widths body

-- the order that a body of a kind holds
abbrev pub order_in : Kind → (body : List ℕ) → Order
order_in kind body = kind.order (λ i. slice_index (numbers 0 kind.widths body) i)

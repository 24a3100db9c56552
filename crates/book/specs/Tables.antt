-- What the arrays of a book keep to.
use Rattle.std.specs.Prelude.{◌≡◌, ℕ, ◌≤◌, List, slice_index_or}
use Rattle.rules.specs.declared.row.AccountRow.{AccountRow}
use Rattle.book.specs.declared.mark.Mark.{Mark}
use Rattle.rules.specs.Sizes.{most_price, most_haircut}
use Rattle.rules.specs.States.{RowAllowed, empty_row}

-- every row is one that its account may have
abbrev pub AllAllowed : List AccountRow → Type 0
AllAllowed rows = (account : ℕ) → RowAllowed account (slice_index_or rows account empty_row)

-- Yen is worth what it says. Any other asset is worth nothing until it is first marked, and so is one that there is not.
abbrev pub yen_mark : Mark
yen_mark = record { price = 1; haircut = 0 }

abbrev pub unmarked : Mark
unmarked = record { price = 0; haircut = most_haircut }

abbrev pub mark_of : List Mark → (asset : ℕ) → Mark
mark_of marks asset = slice_index_or marks asset unmarked

-- yen at 1, and no price above the highest
abbrev pub Priced : List Mark → Type 0
Priced marks = ((mark_of marks 0).price ≡ 1) × ((asset : ℕ) → (mark_of marks asset).price ≤ most_price)

-- no haircut above the whole
abbrev pub Cut : List Mark → Type 0
Cut marks = (asset : ℕ) → (mark_of marks asset).haircut ≤ most_haircut

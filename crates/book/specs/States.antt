-- A book of the code as a state and terms of the rules.
use Rattle.std.specs.Prelude.{ℕ, None, slice_index_or}
use Rattle.rules.specs.declared.row.Counts.{Counts}
use Rattle.rules.specs.declared.row.AccountRow.{AccountRow}
use Rattle.rules.specs.declared.standing.Standing.TheVariants.{Active}
use Rattle.rules.specs.States.{State, Terms, empty_row}
use Rattle.custody.specs.Boxes as custodian
use Rattle.book.specs.declared.table.AccountTable.{AccountTable}
use Rattle.book.specs.declared.records.Records.{Records}
use Rattle.book.specs.Tables.{mark_of}

-- the row of an account; past the last account an empty one
unfoldable pub rows_of : AccountTable → ℕ → AccountRow
rows_of table account = slice_index_or table.rows account empty_row

abbrev pub state_of : Records → custodian.Boxes → State
state_of records boxes = record {
  rows = rows_of records.table;
  opened = λ account. slice_index_or records.opened account None;
  standing = λ participant. slice_index_or records.standings participant Active;
  price = λ asset. (mark_of records.marks asset).price;
  haircut = λ asset. (mark_of records.marks asset).haircut;
  held = boxes.held;
}

abbrev pub terms_of : custodian.Boxes → (house customers : Counts → ℕ) → Terms
terms_of boxes house customers = record { limit = boxes.limit; house_amount = house; customer_amount = customers }

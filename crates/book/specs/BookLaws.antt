-- What is true of every book: the bounds that figures rest on, and the laws of its terms.
use Rattle.std.specs.Prelude.{ℕ}
use Rattle.std.proofs.Common.{arith}
use Rattle.rules.specs.declared.row.Counts.{Counts}
use Rattle.rules.specs.States.{RowAllowed, LawfulMethod, Lawful}
use Rattle.custody.specs.Boxes as custodian
use Rattle.figures.specs.Bounds.{Bounded}
use Rattle.book.specs.declared.table.AccountTable.{AccountTable}
use Rattle.book.specs.declared.records.Records.{Records}
use Rattle.book.specs.States.{rows_of, state_of, terms_of}

rows_allowed : (table : AccountTable) (account : ℕ) → RowAllowed account (rows_of table account)
unfolding rows_of
rows_allowed table account = table.allowed account

pub bounded : {S C : Type 0} (records : S → Records) (custody : S → C) (boxes : C → custodian.Boxes) → custodian.Lawful boxes → Bounded (λ s. state_of (records s) (boxes (custody s)))
bounded records custody boxes h = record {
  rows = λ s account. rows_allowed (records s).table account;
  yen = λ s. (records s).priced.0;
  prices = λ s asset. (records s).priced.1 asset;
  units = λ s b. let within = h.within (custody s) b in let limit = h.bounded (custody s) b in omega arith;
}

pub lawful : {C : Type 0} (boxes : C → custodian.Boxes) → custodian.Lawful boxes → (custody : C) (house customers : Counts → ℕ) → LawfulMethod house → LawfulMethod customers → Lawful (terms_of (boxes custody) house customers)
lawful boxes h custody house customers house_laws customer_laws = record {
  bounded = h.bounded custody;
  none_beyond = h.none_beyond custody;
  house_method = house_laws;
  customer_method = customer_laws;
}

use Rattle.std.proofs.Common.{◌≡◌, get_or, replicate, sym, subst}
use mathlib.Core.Path.{fun_ext}
use Rattle.rules.specs.declared.row.AccountRow.{AccountRow}
use Rattle.rules.specs.Sizes.{accounts}
use Rattle.rules.specs.States.{empty_row, made}
use Rattle.rules.proofs.Same.{get_or_same}
use Rattle.book.specs.Tables.{AllAllowed}
use Rattle.book.specs.States.{rows_of}
use Rattle.book.proofs.Fresh.{all_allowed}
use Rattle.book.proofs.table.AccountTable.empty.Goals as goal

pub invariant_of-result : goal.invariant_of-result
invariant_of-result c = record { allowed = subst (λ (r : AccountRow). AllAllowed (replicate accounts r)) (sym c.empty.ensures) all_allowed }

pub returns : goal.returns
unfolding rows_of made
returns c = subst (λ (r : AccountRow). (λ a. get_or (replicate accounts r) a empty_row) ≡ made.rows) (sym c.empty.ensures) (fun_ext (get_or_same accounts empty_row))

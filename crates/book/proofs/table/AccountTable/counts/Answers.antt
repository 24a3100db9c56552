use Rattle.std.proofs.Common.{sym, subst}
use Rattle.rules.specs.declared.row.AccountRow.{AccountRow}
use Rattle.rules.specs.States.{Countable}
use Rattle.book.specs.States.{rows_of}
use Rattle.book.proofs.table.AccountTable.counts.Goals as goal

pub invariant_of-result : goal.invariant_of-result
unfolding rows_of
invariant_of-result c = record { countable = subst (λ (row : AccountRow). Countable row.counts) (sym c.row.ensures) (c.args.self.now.allowed c.args.account).counts }

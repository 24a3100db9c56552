use Rattle.std.proofs.Common.{◌<◌, length, sym, subst, rules}
use Rattle.std.proofs.lemmas.List.{get_or_default, get_or-set_same}
use Rattle.std.specs.Fn.{FnOnceReturnsAtMut}
use Rattle.rules.specs.States.{RowAllowed, empty_row}
use Rattle.book.specs.States.{rows_of}
use Rattle.book.proofs.Writes.{each_set, put_set, moved}
use Rattle.book.proofs.table.AccountTable.write.Goals as goal

pub invariant_of-self : goal.invariant_of-self
invariant_of-self g c =
    let t = c.args.self.now in
    let a = c.args in
    let l : a.account < length t.rows = search rules in
    let old = subst (RowAllowed a.account) (sym (get_or_default t.rows a.account _ empty_row l)) (t.allowed a.account) in
    record { allowed = each_set RowAllowed empty_row t.rows a.account _ (c.requires.allowed _ _ old c.lend.ensures) t.allowed }

pub returns-clause-called : goal.returns-clause-called
unfolding rows_of
returns-clause-called g c =
    let t = c.args.self.now in
    let a = c.args in
    let l : a.account < length t.rows = search rules in
    moved (λ old new. FnOnceReturnsAtMut g.F.FnOnce a.function old tt new) t.rows a.account _ _ l c.lend.ensures

pub returns-clause-others : goal.returns-clause-others
unfolding rows_of
returns-clause-others g c =
    let t = c.args.self.now in
    let a = c.args in
    let l : a.account < length t.rows = search rules in
    put_set t.rows a.account _ _ empty_row l (sym (get_or-set_same t.rows a.account _ empty_row l))

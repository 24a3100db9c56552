use Rattle.std.proofs.Common.{sym, ◌∙◌, rules}
use Rattle.rules.specs.Orders.{withdraw}
use Rattle.book.specs.States.{state_of, terms_of}
use Rattle.book.proofs.Taking.{refused}
use Rattle.book.proofs.book.BookMarginBook.withdraw.Goals as goal

pub returns-in_err-check_withdrawal-clause-step : goal.returns-in_err-check_withdrawal-clause-step
returns-in_err-check_withdrawal-clause-step g c =
    let book = c.args.self.now in
    let a = c.args in
    let boxes = g.Custody.Custodian.boxes book.custody in
    let T = terms_of boxes (g.HouseMethod.MarginMethod.amount book.house) (g.CustomerMethod.MarginMethod.amount book.customers) in
    refused T (state_of book.records boxes) (withdraw a.account a.pocket a.asset a.units) tt _ c.in_err-check_withdrawal.field-0.0 (sym c.check_withdrawal.ensures ∙ c.in_err-check_withdrawal.was) (search rules)

use Rattle.std.proofs.Common.{ℕ, Ok, sym, ap, ◌∙◌, ap₂, rules}
use Rattle.rules.specs.declared.row.AccountRow.{AccountRow}
use Rattle.rules.specs.Sizes.{box, put}
use Rattle.rules.specs.Refusals.{Outcome}
use Rattle.rules.specs.Orders.{tests, effect, seize, paid_row}
use Rattle.rules.proofs.Decided.{decided_accepted, answered_value, answered_passed}
use Rattle.custody.specs.Boxes.{Boxes}
use Rattle.book.specs.States.{state_of, terms_of}
use Rattle.book.proofs.Taking.{took, not_both, with_both, refused}
use Rattle.book.proofs.book.BookMarginBook.seize.Goals as goal

pub returns-in_err-value-clause-step : goal.returns-in_err-value-clause-step
returns-in_err-value-clause-step g c =
    let book = c.args.self.now in
    let a = c.args in
    let boxes = g.Custody.Custodian.boxes book.custody in
    let T = terms_of boxes (g.HouseMethod.MarginMethod.amount book.house) (g.CustomerMethod.MarginMethod.amount book.customers) in
    refused T (state_of book.records boxes) (seize a.side a.paying a.pocket a.asset a.paid a.units) _ _ c.in_err-value.field-0.0 (sym c.check_seizure.ensures ∙ c.in_err-value.was) (search rules)

-- the take is not refused
pub returns-in_err-take_out-clause-step : goal.returns-in_err-take_out-clause-step
returns-in_err-take_out-clause-step g c =
    let book = c.args.self.now in
    let a = c.args in
    let boxes = g.Custody.Custodian.boxes book.custody in
    let s = state_of book.records boxes in
    let T = terms_of boxes (g.HouseMethod.MarginMethod.amount book.house) (g.CustomerMethod.MarginMethod.amount book.customers) in
    let order = seize a.side a.paying a.pocket a.asset a.paid a.units in
    let checked = sym c.check_seizure.ensures ∙ c.in_ok-value.was in
    let enough = (answered_passed _ _ (tests T s order) checked).1.1.1.1.1.1.0 in
    let gone = took boxes (g.Custody.Custodian.boxes c.take_out.new.custody) _ (box a.paying a.pocket a.asset) a.units _ c.take_out.ensures c.number.ensures enough in
    absurd (not_both _ _ (ap (λ (out : Outcome × Boxes). out.0) gone) c.in_err-take_out.was)

pub returns-clause-step : goal.returns-clause-step
returns-clause-step g c =
    let book = c.args.self.now in
    let a = c.args in
    let boxes = g.Custody.Custodian.boxes book.custody in
    let house = g.HouseMethod.MarginMethod.amount book.house in
    let customers = g.CustomerMethod.MarginMethod.amount book.customers in
    let s = state_of book.records boxes in
    let T = terms_of boxes house customers in
    let order = seize a.side a.paying a.pocket a.asset a.paid a.units in
    let checked = sym c.check_seizure.ensures ∙ c.in_ok-value.was in
    let enough = (answered_passed _ _ (tests T s order) checked).1.1.1.1.1.1.0 in
    let gone = took boxes (g.Custody.Custodian.boxes c.take_out.new.custody) _ (box a.paying a.pocket a.asset) a.units _ c.take_out.ensures c.number.ensures enough in
    let paid = c.pay.ensures ∙ ap (λ (v : ℕ). put s.rows a.paid (paid_row a.side a.pocket v (s.rows a.paid))) (answered_value _ _ (tests T s order) checked) in
    ap₂ (λ (rows : ℕ → AccountRow) (held : ℕ → ℕ). (Ok tt, with_both s rows held)) paid (ap (λ (out : Outcome × Boxes). out.1.held) gone) ∙ sym (decided_accepted _ s (effect s order) (tests T s order) _ checked)

use Rattle.rules.proofs.Whole.{law}
use Rattle.book.specs.BookLaws.{lawful}
use Rattle.book.proofs.book.BookMarginBook.law_of_runs.Goals as goal

pub returns-clause-stands : goal.returns-clause-stands
returns-clause-stands g c =
    let book = c.args.self.now in
    let terms_lawful = lawful g.Custody.Custodian.boxes g.Custody.Custodian.laws book.custody (g.HouseMethod.MarginMethod.amount book.house) (g.CustomerMethod.MarginMethod.amount book.customers) (g.HouseMethod.MarginMethod.laws book.house) (g.CustomerMethod.MarginMethod.laws book.customers) in
    law _ terms_lawful

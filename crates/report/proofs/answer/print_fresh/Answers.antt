use Rattle.std.proofs.Common.{◌∙◌}
use Rattle.report.proofs.Program.{terms_are, fresh_printed}
use Rattle.report.proofs.answer.print_fresh.Goals as goal

pub returns : goal.returns
returns g c =
    let terms = c.new-book.ensures.terms ∙ terms_are (g.Custody.Custodian.boxes c.args.custody).limit _ _ c.requires c.new.ensures c.new-2.ensures in
    rw (← fresh_printed _ _ c.args.file.now terms c.new-book.ensures.promise.fresh) c.print_run.ensures

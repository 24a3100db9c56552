use Rattle.std.proofs.Common.{◌∙◌}
use Rattle.std.proofs.lemmas.Result.{IfOk-weaker}
use Rattle.report.proofs.Whole.{in_place, all_printed}
use Rattle.report.proofs.printing.print_run.Goals as goal

pub print_outcome-requires : goal.print_outcome-requires
print_outcome-requires g c =
    let ran = c.run-outcome.ensures in
    in_place _ _ _ _ c.run-outcome.new.answers _ (c.as_mut_slice-answers.ensures.len ∙ c.in_ok-places.ensures.len) ran.list ran.state c.run-outcome.result ran.answer

pub returns : goal.returns
returns g c =
    let ran = c.run-outcome.ensures in
    let whole = all_printed _ _ _ _ c.run-outcome.new.answers _ (c.as_mut_slice-answers.ensures.len ∙ c.in_ok-places.ensures.len) ran.list ran.state c.run-outcome.result ran.answer in
    IfOk-weaker c.print_outcome.result _ _ (λ s told. told ∙ whole) c.print_outcome.ensures

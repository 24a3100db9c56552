use Rattle.std.proofs.Common.{refl}
use Rattle.std.specs.Fmt.{digits}
use Rattle.rules.specs.Sizes.{sum}
use Rattle.rules.specs.Values.{market, applied}
use Rattle.rules.specs.States.{made}
use Rattle.rules.specs.Figures.{pocket_value, over, from_customer, own_pool, excess, withheld, claim, kept, passed_on, rest, pooled, pool, charge, kept_from_pool, participant_claim, retained, applied_pocket, covering_value, maintenance_amount}
use Rattle.rules.specs.Orders.{withdrawal_barred, seizure_barred, answer, after}
use Rattle.rules.specs.Runs.{run, history}
use Rattle.margin.specs.Rates.{asked}
use Rattle.orders.specs.Reading.{orders_from}
use Rattle.orders.specs.Runs.{answers_to}
use Rattle.report.specs.Lines.{in_turn}
use Rattle.report.specs.Reports.{account_lines, participant_lines}
use Rattle.report.specs.Printed.{printed}
use Rattle.report.proofs.sample.sample_stands.Goals as goal

pub returns : goal.returns
unfolding digits sum market applied made pocket_value over from_customer own_pool excess withheld claim kept passed_on rest pooled pool charge kept_from_pool participant_claim retained applied_pocket covering_value maintenance_amount withdrawal_barred seizure_barred answer after run history asked orders_from answers_to in_turn account_lines participant_lines printed
returns c = refl

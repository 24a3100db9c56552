use Rattle.examples.proofs.Computed.{worked_figures}
use Rattle.examples.proofs.worked.worked_figures_stand.Goals as goal

pub returns : goal.returns
returns c = worked_figures

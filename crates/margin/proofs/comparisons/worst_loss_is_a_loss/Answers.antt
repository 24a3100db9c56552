use Rattle.margin.proofs.Compared.{worst_is_a_loss}
use Rattle.margin.proofs.comparisons.worst_loss_is_a_loss.Goals as goal

pub returns : goal.returns
returns c = worst_is_a_loss

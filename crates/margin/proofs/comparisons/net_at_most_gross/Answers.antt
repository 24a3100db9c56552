use Rattle.margin.proofs.Compared.{net_at_most_gross}
use Rattle.margin.proofs.comparisons.net_at_most_gross.Goals as goal

pub returns : goal.returns
returns c = net_at_most_gross

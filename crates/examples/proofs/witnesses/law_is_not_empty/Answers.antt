use Rattle.examples.proofs.Computed.{witnesses}
use Rattle.examples.proofs.witnesses.law_is_not_empty.Goals as goal

pub returns : goal.returns
returns c = witnesses

use Rattle.rules.proofs.Whole.{law}
use Rattle.rules.proofs.law.law_of_runs.Goals as goal

pub returns : goal.returns
returns c = law

use Rattle.law.proofs.theorems.calls_have_one_outcome.Goals as goal
use Rattle.law.proofs.Verdicts.{steps_once}
use Rattle.law.proofs.Endings.{total}

-- One outcome, at the meaning that M has.
pub returns-clause-unique : goal.returns-clause-unique
returns-clause-unique g c = steps_once g.M.Meant.meaning

pub returns-clause-exists : goal.returns-clause-exists
returns-clause-exists g c = total g.M.Meant.meaning

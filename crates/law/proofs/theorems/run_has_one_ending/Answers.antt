use Rattle.law.proofs.theorems.run_has_one_ending.Goals as goal
use Rattle.law.proofs.Runs.{unique_ending}
use Rattle.law.proofs.Endings.{ending_exists}

-- One ending, at the meaning that M has.
pub returns-clause-unique : goal.returns-clause-unique
returns-clause-unique g c = unique_ending g.M.Meant.meaning

pub returns-clause-exists : goal.returns-clause-exists
returns-clause-exists g c = ending_exists g.M.Meant.meaning

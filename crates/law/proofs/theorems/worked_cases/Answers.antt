use Rattle.law.proofs.theorems.worked_cases.Goals as goal
use Rattle.law.proofs.Worked.{worked, worked_refusals}

-- The worked histories and refusals.
pub returns-clause-histories : goal.returns-clause-histories
returns-clause-histories c = worked

pub returns-clause-refusals : goal.returns-clause-refusals
returns-clause-refusals c = worked_refusals

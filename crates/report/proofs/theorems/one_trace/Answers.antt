use Rattle.report.proofs.Once.{unique_trace}
use Rattle.report.proofs.theorems.one_trace.Goals as goal

-- One outcome, as the lemmas of `Once` show.
pub returns-clause-unique : goal.returns-clause-unique
returns-clause-unique c = unique_trace

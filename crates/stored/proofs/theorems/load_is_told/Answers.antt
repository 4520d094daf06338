use Rattle.stored.proofs.Chains.{told}
use Rattle.stored.proofs.theorems.load_is_told.Goals as goal

pub returns-clause-told : goal.returns-clause-told
returns-clause-told g c = λ id. told _ id _ _

use Rattle.law.proofs.theorems.law_holds.Goals as goal
use Rattle.law.proofs.Law.{lawful}

-- The law, at the meaning that M has.
pub returns-clause-law : goal.returns-clause-law
returns-clause-law g c = lawful g.M.Meant.meaning

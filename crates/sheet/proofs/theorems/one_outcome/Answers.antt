-- At the meaning of the book.
use Rattle.law.proofs.Law.{lawful}
use Rattle.law.proofs.Runs.{unique_ending}
use Rattle.law.proofs.Verdicts.{steps_once}
use Rattle.sheet.proofs.theorems.one_outcome.Goals as goal

pub returns-clause-ending : goal.returns-clause-ending
returns-clause-ending g c = unique_ending (g.B.Book.meaning c.args.book.now)

pub returns-clause-outcome : goal.returns-clause-outcome
returns-clause-outcome g c = steps_once (g.B.Book.meaning c.args.book.now)

pub returns-clause-law : goal.returns-clause-law
returns-clause-law g c = lawful (g.B.Book.meaning c.args.book.now)

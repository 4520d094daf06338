use Rattle.std.proofs.Common.{rules}
use Rattle.commands.proofs.Decimals.{exact_answer}
use Rattle.commands.proofs.print.print_answer.Goals as goal

-- no memory for the text
pub returns-in_err-text-clause-exact : goal.returns-in_err-text-clause-exact
returns-in_err-text-clause-exact c = exact_answer c.args.answer.now

-- nor for what did not fit
pub returns-in_err-write-in_default : goal.returns-in_err-write-in_default
returns-in_err-write-in_default c = record { text = search rules; exact = exact_answer c.args.answer.now }

-- the text is whole
pub returns-clause-exact : goal.returns-clause-exact
returns-clause-exact c = exact_answer c.args.answer.now

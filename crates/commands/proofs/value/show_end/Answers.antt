use Rattle.commands.proofs.Decimals.{exact_end}
use Rattle.commands.proofs.value.show_end.Goals as goal

pub returns-clause-exact : goal.returns-clause-exact
returns-clause-exact c = exact_end c.args.end

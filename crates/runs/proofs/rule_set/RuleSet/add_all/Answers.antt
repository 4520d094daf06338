use Rattle.runs.proofs.RuleSets.{joined}
use Rattle.runs.proofs.rule_set.RuleSet.add_all.Goals as goal

pub returns : goal.returns
returns c = λ j. joined c.args.self.now.bits c.args.other.bits j

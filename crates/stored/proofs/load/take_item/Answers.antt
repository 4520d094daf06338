use Rattle.stored.proofs.Walks.{called_rule}
use Rattle.stored.proofs.load.take_item.Goals as goal

-- a rule by its numbers is the rule
pub returns-in-Rule-clause-called : goal.returns-in-Rule-clause-called
returns-in-Rule-clause-called g c = called_rule _ _ _ _ _ c.args.item c.in-Rule.rule c.in-Rule.is c.rule.ensures.called

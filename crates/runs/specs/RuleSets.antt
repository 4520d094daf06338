-- Sets of rules, one bit a rule.
--   place   a rule's place among the rules, counted from 0: one less than its number
-- Assumes nothing.
use Rattle.std.specs.Prelude.{ℕ, Bool, ◌==◌}
use Rattle.std.specs.Int.{bit_at}
use Rattle.runs.specs.declared.rule_set.RuleSet.{RuleSet}

-- Whether the rule at place i is in the set.
abbrev pub has : RuleSet → ℕ → Bool
has s i = bit_at s.bits i == 1

-- The set of no rule.
abbrev pub none : RuleSet
none = record { bits = 0 }

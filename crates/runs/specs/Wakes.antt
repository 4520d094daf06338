-- Which rules are to be tried again.
--   awake    a rule that may close something; one that is not is known to be still
--   naming   for each line, by its place, the set of the rules that name it
--   agenda   a naming, with the set of the rules that are awake
--   place    of a rule or a line: one less than its number
-- Assumes nothing.
use Rattle.std.specs.Prelude.{◌≡◌, ℕ, ◌-◌, ◌<◌, ◌≤◌, true, false, ◌⊎◌, List, [], ◌∷◌, length, get_or, slice_index_or}
use Rattle.windows.specs.Spans.{Span, Every, nowhere}
use Rattle.windows.specs.Meanings.{Meaning}
use Rattle.law.specs.declared.calls.Rule.{Rule}
use Rattle.law.specs.Runs.{Still}
use Rattle.runs.specs.declared.naming.Naming.{Naming}
use Rattle.runs.specs.declared.rule_set.RuleSet.{RuleSet}
use Rattle.runs.specs.declared.wake.Agenda.{Agenda}
use Rattle.runs.specs.Rounds.{Ready}
use Rattle.runs.specs.RuleSets.{has, none}

-- What stands past the last rule.
abbrev pub no_rule : Rule
no_rule = record { kind = 0; a = 0; b = 0; c = 0 }

-- The rules that name the line at place p.
abbrev pub rules_of : Naming → ℕ → RuleSet
rules_of naming p = slice_index_or naming.sets p none

-- The rule at place j is among those that name line k, if that is one of 64 lines.
abbrev pub Listed : Naming → ℕ → ℕ → Type 0
Listed naming j k = 1 ≤ k → k ≤ 64 → has (rules_of naming (k - 1)) j ≡ true

-- Every rule is among those that name any of its lines.
abbrev pub Indexed : List Rule → Naming → Type 0
Indexed rules naming =
    (j : ℕ) → j < length rules →
    Every (Listed naming j) ((get_or rules j no_rule).a ∷ (get_or rules j no_rule).b ∷ (get_or rules j no_rule).c ∷ [])

-- From the windows ws with the agenda a to vs with b: no rule goes to sleep, and those that name a line whose window moved are awake.
pub record Woken (a : Agenda) (ws : List Span) (b : Agenda) (vs : List Span) : Type 0 where
  pub naming : b.naming ≡ a.naming
  pub kept : (j : ℕ) → has a.awake j ≡ true → has b.awake j ≡ true
  pub woken : (p : ℕ) → p < 64 → (slice_index_or vs p nowhere ≡ slice_index_or ws p nowhere) ⊎ ((j : ℕ) → has (rules_of a.naming p) j ≡ true → has b.awake j ≡ true)

-- The windows and all rules are in order, every rule is named at its lines, and every rule that is not awake is still.
pub record Calm (m : Meaning) (rules : List Rule) (a : Agenda) (ws : List Span) : Type 0 where
  pub ready : Ready m rules ws
  pub listed : Indexed rules a.naming
  pub quiet : (j : ℕ) → j < length rules → has a.awake j ≡ false → Still m ws (slice_index_or rules j no_rule)

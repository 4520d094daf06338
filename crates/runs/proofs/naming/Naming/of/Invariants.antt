use Rattle.std.proofs.Common.{ℕ, ◌<◌, [], ◌∷◌, get_or, vec_items}
use Rattle.windows.specs.Spans.{Every}
use Rattle.runs.specs.Wakes.{Listed, no_rule}
use Rattle.runs.proofs.naming.Naming.of.Given as goal

-- the rules so far are listed
abbrev pub invariant-loop-i : goal.invariant-loop-i
invariant-loop-i l =
    (j : ℕ) → j < l.i →
    Every (Listed l.naming j) ((get_or (vec_items l.rules.items) j no_rule).a ∷ (get_or (vec_items l.rules.items) j no_rule).b ∷ (get_or (vec_items l.rules.items) j no_rule).c ∷ [])

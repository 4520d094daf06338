-- What the code's steps of a settle come to, in terms of the run.
--   ready     windows and rules that are in order, as those of every sheet that calls led to are
--   attempt   the try of one rule, where there may be room for one more narrowing or not
--   round     the tries of all rules, one after the other
-- Assumes nothing.
use Rattle.std.specs.Prelude.{◌≡◌, ℕ, ◌+◌, ◌<◌, Bool, true, false, List, length, Ok, Err, Result}
use Rattle.windows.specs.Spans.{Span, Every}
use Rattle.windows.specs.Meanings.{Meaning}
use Rattle.law.specs.declared.calls.Answer.{Answer}
use Rattle.law.specs.declared.calls.Rule.{Rule}
use Rattle.law.specs.declared.calls.State.{State}
use Rattle.law.specs.Sheets.{named, put}
use Rattle.law.specs.Runs.{Ending, standing, spent, barren, HasNone, Still, Narrows, Run, EndsWith}
use Rattle.law.specs.Steps.{told}
use Rattle.law.specs.Sound.{Fits, FitRule}
use Rattle.runs.specs.declared.run.Attempt.{Attempt}
use Rattle.runs.specs.declared.settled.Settled.{Settled}

-- The windows and the rule are in order.
pub record FitTry (m : Meaning) (ws : List Span) (r : Rule) : Type 0 where
  pub fits : Every (Fits m) ws
  pub rule_fits : FitRule m (length ws) r

-- The windows and all rules are.
pub record Ready (m : Meaning) (rules : List Rule) (ws : List Span) : Type 0 where
  pub fits : Every (Fits m) ws
  pub rules_fit : Every (FitRule m (length ws)) rules

-- From ws to vs by the try of rule r, with or without room for a narrowing.
abbrev pub Attempted : Meaning → Rule → Bool → List Span → List Span → Attempt → Type 0
Attempted m r room ws vs Attempt.NoChoice = HasNone m ws r × (vs ≡ ws)
Attempted m r room ws vs Attempt.Still = Still m ws r × (vs ≡ ws)
Attempted m r room ws vs Attempt.Narrowed = (us : List Span) × Narrows m ws r us × (vs ≡ put (named m r) us ws) × (room ≡ true)
Attempted m r room ws vs Attempt.LeftUndone = (us : List Span) × Narrows m ws r us × (vs ≡ ws) × (room ≡ false)

-- From ws to vs by one round, begun with c narrowings: the run from there ends with it, or goes on with d narrowings.
abbrev pub Rounded : Meaning → List Rule → ℕ → ℕ → List Span → List Span → Result ℕ Settled → Type 0
Rounded m rules n c ws vs (Ok d) = (e : Ending) → Run m rules n rules 1 false d vs e → Run m rules n rules 1 false c ws e
Rounded m rules n c ws vs (Err (Settled.Standing d)) = Run m rules n rules 1 false c ws (standing d vs)
Rounded m rules n c ws vs (Err (Settled.Spent k)) = Run m rules n rules 1 false c ws (spent vs) × (k ≡ n)
Rounded m rules n c ws vs (Err (Settled.Barren k)) = Run m rules n rules 1 false c ws (barren k)

-- A round after which the run goes on counts more narrowings than before, and no more than n.
abbrev pub Counted : ℕ → ℕ → Result ℕ Settled → Type 0
Counted n c (Ok d) = (c < d) × (d < n + 1)
Counted n c (Err s) = Unit {0}

-- From ws to vs by a run with the allowance n: what it ended with. A run that ends barren may leave any windows.
abbrev pub Ended : Meaning → List Rule → ℕ → List Span → List Span → Settled → Type 0
Ended m rules n ws vs (Settled.Standing c) = EndsWith m rules n ws (standing c vs)
Ended m rules n ws vs (Settled.Spent k) = EndsWith m rules n ws (spent vs) × (k ≡ n)
Ended m rules n ws vs (Settled.Barren k) = EndsWith m rules n ws (barren k)

-- The answer that a settle gives, and the state that it leaves.
abbrev pub answered : Settled → Answer
answered (Settled.Standing c) = Answer.Standing c
answered (Settled.Spent n) = Answer.Spent n
answered (Settled.Barren k) = Answer.Barren k

abbrev pub left_in : Settled → State
left_in (Settled.Standing c) = State.Standing
left_in (Settled.Spent n) = State.Unsettled
left_in (Settled.Barren k) = State.Barren

-- The windows that an ending leaves, of those that the run began with.
abbrev pub left_by : List Span → Ending → List Span
left_by ws (standing c vs) = vs
left_by ws (spent vs) = vs
left_by ws (barren k) = ws

-- From ws to vs by a settle: as its run ends; where it ends barren, the windows are as before.
pub record Finished (m : Meaning) (rules : List Rule) (n : ℕ) (ws vs : List Span) (r : Settled) : Type 0 where
  pub ending : Ending
  pub ends : EndsWith m rules n ws ending
  pub leaves : vs ≡ left_by ws ending
  pub says : answered r ≡ told n ending

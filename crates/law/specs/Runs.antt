-- The run of settle.
--   try        a rule tried on the windows of its lines, as the try before left them
--   narrowing  a try that takes at least one code from a window: the smallest box is not what the windows were
--   round      the rules tried in order, rule 1 to the last
--   n          the allowance: how many narrowings settle may make
-- Assumes nothing of the rules: how a run ends is a relation. UniqueEnding says that it has no two endings.
use Rattle.std.specs.Prelude.{◌≡◌, ℕ, suc, ◌<◌, ◌≤◌, Bool, true, false, ◌≢◌, List, [], ◌∷◌}
use Rattle.windows.specs.Spans.{Span}
use Rattle.windows.specs.Choices.{NoChoice, Smallest}
use Rattle.windows.specs.Meanings.{Meaning}
use Rattle.law.specs.declared.calls.Rule.{Rule}
use Rattle.law.specs.Sheets.{named, windows_of, put}

-- How a run ends: standing with the count of narrowings and the windows reached, spent with the windows reached, or barren with a rule's number.
pub data Ending : Type 0 where
  standing : (count : ℕ) (ws : List Span) → Ending
  spent : (ws : List Span) → Ending
  barren : (rule : ℕ) → Ending

-- The rule has no satisfying choice in the windows ws.
abbrev pub HasNone : Meaning → List Span → Rule → Type 0
HasNone m ws r = NoChoice (m.related r.kind) (windows_of m ws r)

-- The smallest box of the rule in ws is what its windows are already.
abbrev pub Still : Meaning → List Span → Rule → Type 0
Still m ws r = Smallest (m.related r.kind) (windows_of m ws r) (windows_of m ws r)

-- The smallest box of the rule in ws is vs, and other than its windows.
pub record Narrows (m : Meaning) (ws : List Span) (r : Rule) (vs : List Span) : Type 0 where
  pub smallest : Smallest (m.related r.kind) (windows_of m ws r) vs
  pub other : vs ≢ windows_of m ws r

-- Run m rules n todo k narrowed c ws e: with the rules todo left in this round, the first of them numbered k,
-- with or without a narrowing so far in this round, after c narrowings in all and at the windows ws, the run ends with e.
pub data Run (m : Meaning) (rules : List Rule) (n : ℕ) : List Rule → ℕ → Bool → ℕ → List Span → Ending → Type 0 where
  -- the rule has no choice: barren, with its number
  none : {r : Rule} {todo : List Rule} {k : ℕ} {q : Bool} {c : ℕ} {ws : List Span}
      → HasNone m ws r
      → Run m rules n (r ∷ todo) k q c ws (barren k)
  -- the rule takes nothing: on to the next
  still : {r : Rule} {todo : List Rule} {k : ℕ} {q : Bool} {c : ℕ} {ws : List Span} {e : Ending}
      → Still m ws r
      → Run m rules n todo (suc k) q c ws e
      → Run m rules n (r ∷ todo) k q c ws e
  -- a narrowing within the allowance: the smallest box is written back, and counted
  narrows : {r : Rule} {todo : List Rule} {k : ℕ} {q : Bool} {c : ℕ} {ws : List Span} {vs : List Span} {e : Ending}
      → Narrows m ws r vs
      → c < n
      → Run m rules n todo (suc k) true (suc c) (put (named m r) vs ws) e
      → Run m rules n (r ∷ todo) k q c ws e
  -- a narrowing past the allowance is left undone: spent
  too_many : {r : Rule} {todo : List Rule} {k : ℕ} {q : Bool} {c : ℕ} {ws : List Span} {vs : List Span}
      → Narrows m ws r vs
      → n ≤ c
      → Run m rules n (r ∷ todo) k q c ws (spent ws)
  -- the round is over and had a narrowing: another round
  next_round : {k : ℕ} {c : ℕ} {ws : List Span} {e : Ending}
      → Run m rules n rules 1 false c ws e
      → Run m rules n [] k true c ws e
  -- the round is over and had none: standing, with the count
  quiet : {k : ℕ} {c : ℕ} {ws : List Span}
      → Run m rules n [] k false c ws (standing c ws)

-- The run of settle with the allowance n, from the windows ws, ends with e.
abbrev pub EndsWith : Meaning → List Rule → ℕ → List Span → Ending → Type 0
EndsWith m rules n ws e = Run m rules n rules 1 false 0 ws e

-- A run has no two endings.
abbrev pub UniqueEnding : Meaning → Type 0
UniqueEnding m =
    (rules : List Rule) (n : ℕ) (ws : List Span) (e e' : Ending) →
    EndsWith m rules n ws e → EndsWith m rules n ws e' → e ≡ e'

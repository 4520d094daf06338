-- What one call does, and which sheets a history leads to.
--   does     what an accepted call makes of a sheet, and its answer
--   steps    what any call does: a refusal leaves the sheet as it was
--   reached  the sheet that a history leads to, from a sheet just set up
-- id is the sheet's number. Assumes nothing.
use Rattle.std.specs.Prelude.{◌≡◌, ℕ, ◌+◌, ◌-◌, [], ◌∷◌, ◌++◌, length, drop, Some, None, slice_index_or, slice_set}
use Rattle.windows.specs.Meanings.{Meaning}
use Rattle.law.specs.declared.calls.State.{State}
use Rattle.law.specs.declared.calls.Rule.{Rule}
use Rattle.law.specs.declared.calls.Call.{Call}
use Rattle.law.specs.declared.calls.Answer.{Answer}
use Rattle.law.specs.declared.calls.Refusal.{Refusal}
use Rattle.law.specs.Sheets.{Core, Model, empty, between, window, cut}
use Rattle.law.specs.Table.{verdict}
use Rattle.law.specs.Runs.{Ending, standing, spent, barren, EndsWith}
use Rattle.law.specs.Histories.{Entry, History}

-- The core with one more line.
abbrev pub lined : Core → ℕ → ℕ → Core
lined c lo hi = record { state = State.Unsettled; windows = c.windows ++ (between lo hi ∷ []); rules = c.rules }

-- The core with one more rule.
abbrev pub ruled : Core → Rule → Core
ruled c r = record { state = State.Unsettled; windows = c.windows; rules = c.rules ++ (r ∷ []) }

-- The core with the window of line k cut down.
abbrev pub pinched : Core → ℕ → ℕ → ℕ → Core
pinched c k lo hi =
    record { state = State.Unsettled; windows = slice_set c.windows (k - 1) (cut (window c.windows k) lo hi); rules = c.rules }

-- The core as the run's ending leaves it: a run that ends barren leaves the windows as they were.
abbrev pub settled : Core → Ending → Core
settled c (standing count ws) = record { state = State.Standing; windows = ws; rules = c.rules }
settled c (spent ws) = record { state = State.Unsettled; windows = ws; rules = c.rules }
settled c (barren k) = record { state = State.Barren; windows = c.windows; rules = c.rules }

-- The answer of settle with the allowance n to the run's ending.
abbrev pub told : ℕ → Ending → Answer
told n (standing count ws) = Answer.Standing count
told n (spent ws) = Answer.Spent n
told n (barren k) = Answer.Barren k

-- The sheet with another core.
abbrev pub with_core : Model → Core → Model
with_core s c = record { core = c; saved = s.saved }

-- Settle with the allowance n leads from s to t and answers as the run of settle ends.
pub record Settles (m : Meaning) (s : Model) (n : ℕ) (t : Model) (answer : Answer) : Type 0 where
  pub ending : Ending
  pub run : EndsWith m s.core.rules n s.core.windows ending
  pub leaves : t ≡ with_core s (settled s.core ending)
  pub says : answer ≡ told n ending

-- What an accepted call does: from s it leads to t, with this answer.
abbrev pub Does : Meaning → ℕ → Model → Call → Model → Answer → Type 0
Does m id s (Call.Line lo hi) t answer =
    (t ≡ with_core s (lined s.core lo hi)) × (answer ≡ Answer.Numbered (length s.core.windows + 1))
Does m id s (Call.Rule r) t answer =
    (t ≡ with_core s (ruled s.core r)) × (answer ≡ Answer.Numbered (length s.core.rules + 1))
Does m id s (Call.Pinch k lo hi) t answer =
    (t ≡ with_core s (pinched s.core k lo hi)) × (answer ≡ Answer.Pinched)
Does m id s (Call.Settle n) t answer = Settles m s n t answer
Does m id s Call.Open t answer =
    (t ≡ record { core = s.core; saved = s.core ∷ s.saved }) × (answer ≡ Answer.Opened id (length s.saved + 1))
Does m id s (Call.Keep number depth) t answer =
    (t ≡ record { core = s.core; saved = drop 1 s.saved }) × (answer ≡ Answer.Kept)
Does m id s (Call.Strike number depth) t answer =
    (t ≡ record { core = slice_index_or s.saved 0 s.core; saved = drop 1 s.saved }) × (answer ≡ Answer.Struck)

-- What a call does.
pub data Steps (m : Meaning) (id : ℕ) (s : Model) (call : Call) (t : Model) (answer : Answer) : Type 0 where
  -- refused by the table: the sheet stays
  refused : (why : Refusal) → verdict m id s call ≡ Some why → t ≡ s → answer ≡ Answer.Refused why → Steps m id s call t answer
  -- accepted
  does : verdict m id s call ≡ None → Does m id s call t answer → Steps m id s call t answer

-- The history leads from the empty sheet to s.
pub data Reached (m : Meaning) (id : ℕ) : History → Model → Type 0 where
  -- no call yet
  set_up : Reached m id [] empty
  -- one more call, with its answer
  called : {h : History} {s t : Model} {e : Entry}
      → Reached m id h s
      → Steps m id s e.call t e.answer
      → Reached m id (e ∷ h) t

-- A call on a sheet does one thing, and gives one answer.
abbrev pub Deterministic : Meaning → Type 0
Deterministic m =
    (id : ℕ) (s : Model) (call : Call) (t t' : Model) (answer answer' : Answer) →
    Steps m id s call t answer → Steps m id s call t' answer' → (t ≡ t') × (answer ≡ answer')

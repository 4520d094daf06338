-- The sheet, as a model.
--   core     what a sheet holds: its state, the window of each line, its rules; both lists in order of arrival
--   saved    a core put aside by the open of a try that is still open, innermost try first
--   number   lines and rules are numbered from 1 in order of arrival
-- Assumes nothing of a sheet: the definitions give each number a meaning, also where no line has it.
use Rattle.std.specs.Prelude.{ℕ, ◌-◌, min, max, List, [], ◌∷◌, map, take, slice_index_or, slice_set}
use Rattle.windows.specs.Spans.{Span, nowhere}
use Rattle.windows.specs.Meanings.{Meaning}
use Rattle.law.specs.declared.calls.State.{State}
use Rattle.law.specs.declared.calls.Rule.{Rule}

-- What a sheet holds.
pub record Core : Type 0 where
  pub state : State
  pub windows : List Span
  pub rules : List Rule

-- A sheet: what it holds, and the cores that its open tries put aside, innermost first.
pub record Model : Type 0 where
  pub core : Core
  pub saved : List Core

-- A sheet that was just set up.
abbrev pub empty : Model
empty = record { core = record { state = State.Unsettled; windows = []; rules = [] }; saved = [] }

-- How many lines, rules and open tries there may be.
abbrev pub most_lines : ℕ
most_lines = 64

abbrev pub most_rules : ℕ
most_rules = 128

abbrev pub most_tries : ℕ
most_tries = 8

-- The window from lo to hi.
abbrev pub between : ℕ → ℕ → Span
between lo hi = record { lo = lo; hi = hi }

-- The window of line k, counted from 1; a number that no line has is given a window too, which no accepted call reads.
abbrev pub window : List Span → ℕ → Span
window ws k = slice_index_or ws (k - 1) nowhere

-- The numbers of the lines that a rule names: as many as its kind says.
abbrev pub named_by : ℕ → Rule → List ℕ
named_by arity r = take arity (r.a ∷ r.b ∷ r.c ∷ [])

abbrev pub named : Meaning → Rule → List ℕ
named m r = named_by (m.arity r.kind) r

-- The windows of the lines that a rule names.
abbrev pub windows_of : Meaning → List Span → Rule → List Span
windows_of m ws r = map (window ws) (named m r)

-- What lies in w and in lo to hi as well.
abbrev pub cut : Span → ℕ → ℕ → Span
cut w lo hi = record { lo = max w.lo lo; hi = min w.hi hi }

-- The windows vs written back to the lines ks.
abbrev pub put : List ℕ → List Span → List Span → List Span
put [] vs ws = ws
put (k ∷ ks) [] ws = ws
put (k ∷ ks) (v ∷ vs) ws = put ks vs (slice_set ws (k - 1) v)

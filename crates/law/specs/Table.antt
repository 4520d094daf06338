-- The table of refusals: which cases each call is checked for, and in which order.
--   check    a refusal, with the test for its case
--   verdict  the refusal of the first case that applies, or none: the call is accepted
-- Assumes nothing.
use Rattle.std.specs.Prelude.{ℕ, Bool, true, false, cond, not, ◌&&◌, ◌||◌, List, [], ◌∷◌, length, Some, None, Option, ◌==◌, nat_eq, nat_le, nat_lt}
use Rattle.windows.specs.Spans.{Span}
use Rattle.windows.specs.Meanings.{Meaning}
use Rattle.law.specs.declared.calls.State.{State}
use Rattle.law.specs.declared.calls.Rule.{Rule}
use Rattle.law.specs.declared.calls.Call.{Call}
use Rattle.law.specs.declared.calls.Refusal.{Refusal}
use Rattle.law.specs.declared.calls.Refusal.TheVariants.{Ends, NoLine, Twice, NoKind, Full, Empties, IsBarren, TooManyTries, WrongTicket}
use Rattle.law.specs.declared.table.Check.{Check}
use Rattle.law.specs.Sheets.{Model, window, named_by, cut, most_lines, most_rules, most_tries}

-- The check of a case: its refusal, and whether it applies.
abbrev pub check : Refusal → Bool → Check
check why applies = record { why = why; applies = applies }

-- The refusal of the first case that applies.
abbrev pub first : List Check → Option Refusal
first [] = None
first (c ∷ cs) = cond c.applies (Some c.why) (first cs)

-- One of the numbers passes the test.
abbrev pub some_of : (ℕ → Bool) → List ℕ → Bool
some_of test [] = false
some_of test (k ∷ ks) = test k || some_of test ks

-- One of the numbers stands again further on.
abbrev pub repeats : List ℕ → Bool
repeats [] = false
repeats (k ∷ ks) = some_of (nat_eq k) ks || repeats ks

-- The state is barren.
abbrev pub is_barren : State → Bool
is_barren State.Unsettled = false
is_barren State.Standing = false
is_barren State.Barren = true

-- The lower end is above the upper, or the upper above the top.
abbrev pub bad_ends : ℕ → ℕ → ℕ → Bool
bad_ends top lo hi = nat_lt hi lo || nat_lt top hi

-- No line has the number k, where there are n lines.
abbrev pub no_line : ℕ → ℕ → Bool
no_line n k = k == 0 || nat_lt n k

-- A rule of so many lines names one that is not there, where there are n, or a third where it has two.
abbrev pub misnames : ℕ → ℕ → Rule → Bool
misnames arity n r = some_of (no_line n) (named_by arity r) || (arity == 2 && not (r.c == 0))

-- The window has no code.
abbrev pub is_empty : Span → Bool
is_empty w = nat_lt w.hi w.lo

-- The ticket is of another sheet, or not of the innermost of n open tries: that one's depth is n, and not 0.
abbrev pub wrong_ticket : ℕ → ℕ → ℕ → ℕ → Bool
wrong_ticket id n number depth = not (number == id) || (not (depth == n) || depth == 0)

-- The cases of a line, after the sheet's state; of a rule; of a pinch; of an open; of a keep or a strike.
abbrev pub line_cases : (top lines lo hi : ℕ) → List Check
line_cases top lines lo hi = check Ends (bad_ends top lo hi) ∷ check Full (nat_le most_lines lines) ∷ []

abbrev pub rule_cases : (arity lines rules : ℕ) → Rule → List Check
rule_cases arity lines rules r =
    check NoKind (arity == 0) ∷
    check NoLine (misnames arity lines r) ∷
    check Twice (repeats (named_by arity r)) ∷
    check Full (nat_le most_rules rules) ∷ []

abbrev pub pinch_cases : (top lines : ℕ) → Span → (k lo hi : ℕ) → List Check
pinch_cases top lines w k lo hi =
    check NoLine (no_line lines k) ∷
    check Ends (bad_ends top lo hi) ∷
    check Empties (is_empty (cut w lo hi)) ∷ []

abbrev pub open_cases : ℕ → List Check
open_cases tries = check TooManyTries (nat_le most_tries tries) ∷ []

abbrev pub ticket_cases : (id tries number depth : ℕ) → List Check
ticket_cases id tries number depth = check WrongTicket (wrong_ticket id tries number depth) ∷ []

-- The cases of each call, in the order in which they are checked; id is the sheet's number.
-- A barren sheet turns every call away but a strike.
unfoldable pub checks : Meaning → ℕ → Model → Call → List Check
checks m id s (Call.Line lo hi) =
    check IsBarren (is_barren s.core.state) ∷ line_cases m.top (length s.core.windows) lo hi
checks m id s (Call.Rule r) =
    check IsBarren (is_barren s.core.state) ∷ rule_cases (m.arity r.kind) (length s.core.windows) (length s.core.rules) r
checks m id s (Call.Pinch k lo hi) =
    check IsBarren (is_barren s.core.state) ∷ pinch_cases m.top (length s.core.windows) (window s.core.windows k) k lo hi
checks m id s (Call.Settle n) =
    check IsBarren (is_barren s.core.state) ∷ []
checks m id s Call.Open =
    check IsBarren (is_barren s.core.state) ∷ open_cases (length s.saved)
checks m id s (Call.Keep number depth) =
    check IsBarren (is_barren s.core.state) ∷ ticket_cases id (length s.saved) number depth
checks m id s (Call.Strike number depth) = ticket_cases id (length s.saved) number depth

-- The first refusal that applies, or none.
unfoldable pub verdict : Meaning → ℕ → Model → Call → Option Refusal
verdict m id s call = first (checks m id s call)

-- Worked histories: what is in force after a few calls. Each is a list of entries in the order in which they were made.
--   after   the history of the entries
-- Assumes nothing.
use Rattle.std.specs.Prelude.{◌≡◌, ℕ, List, [], ◌∷◌, reverse}
use Rattle.windows.specs.Spans.{Span}
use Rattle.law.specs.declared.calls.Rule.{Rule}
use Rattle.law.specs.declared.calls.Call.{Call}
use Rattle.law.specs.declared.calls.Answer.{Answer}
use Rattle.law.specs.declared.calls.Refusal.{Refusal}
use Rattle.law.specs.Sheets.{between}
use Rattle.law.specs.Histories.{Entry, History, entry}
use Rattle.law.specs.Force.{tries, InForce, windows_in, rules_in}

-- The history of entries made in this order.
abbrev pub after : List Entry → History
after es = reverse es

-- The windows in force after the entries.
abbrev pub windows_after : List Entry → List Span
windows_after es = windows_in (InForce (after es))

-- The rules in force after the entries.
abbrev pub rules_after : List Entry → List Rule
rules_after es = rules_in (InForce (after es))

-- The entries that the examples are made of, on a sheet numbered 7.
abbrev pub adds : ℕ → ℕ → ℕ → Entry
adds lo hi k = entry (Call.Line lo hi) (Answer.Numbered k)

-- A pinch of line k.
abbrev pub pinches : ℕ → ℕ → ℕ → Entry
pinches k lo hi = entry (Call.Pinch k lo hi) Answer.Pinched

-- A try is opened.
abbrev pub opens : ℕ → Entry
opens depth = entry Call.Open (Answer.Opened 7 depth)

-- The innermost try is kept.
abbrev pub keeps : ℕ → Entry
keeps depth = entry (Call.Keep 7 depth) Answer.Kept

-- The innermost try is struck.
abbrev pub strikes : ℕ → Entry
strikes depth = entry (Call.Strike 7 depth) Answer.Struck

-- A rule of kind 5 on lines 1 and 2.
abbrev pub ordering : Rule
ordering = record { kind = 5; a = 1; b = 2; c = 0 }

-- That rule is added.
abbrev pub rules : Entry
rules = entry (Call.Rule ordering) (Answer.Numbered 1)

-- The worked histories.
pub record Worked : Type 0 where
  -- two pinches of a line cut its window, whatever their order; another line's window stays
  pub cut_twice : windows_after (adds 0 10 1 ∷ adds 3 4 2 ∷ pinches 1 2 8 ∷ pinches 1 4 9 ∷ []) ≡ between 4 8 ∷ between 3 4 ∷ []
  pub cut_in_turn : windows_after (adds 0 10 1 ∷ adds 3 4 2 ∷ pinches 1 4 9 ∷ pinches 1 2 8 ∷ []) ≡ between 4 8 ∷ between 3 4 ∷ []
  -- what a try added is in force while it is open, and when it was kept
  pub in_a_try : windows_after (adds 0 10 1 ∷ opens 1 ∷ pinches 1 2 8 ∷ []) ≡ between 2 8 ∷ []
  pub kept : windows_after (adds 0 10 1 ∷ opens 1 ∷ pinches 1 2 8 ∷ keeps 1 ∷ []) ≡ between 2 8 ∷ []
  -- and not when it was struck: what came before stays, and what comes after comes into force
  pub struck_out :
      windows_after (adds 0 10 1 ∷ opens 1 ∷ pinches 1 2 8 ∷ adds 3 4 2 ∷ strikes 1 ∷ adds 5 6 2 ∷ []) ≡ between 0 10 ∷ between 5 6 ∷ []
  pub rules_struck_out : rules_after (adds 0 10 1 ∷ adds 3 4 2 ∷ opens 1 ∷ rules ∷ strikes 1 ∷ []) ≡ []
  -- kept inside and struck outside: not in force
  pub kept_then_struck : windows_after (adds 0 10 1 ∷ opens 1 ∷ opens 2 ∷ pinches 1 2 8 ∷ keeps 2 ∷ strikes 1 ∷ []) ≡ between 0 10 ∷ []
  -- struck inside and kept outside: what stands outside the inner try is in force
  pub struck_then_kept :
      windows_after (adds 0 10 1 ∷ opens 1 ∷ pinches 1 2 8 ∷ opens 2 ∷ pinches 1 4 6 ∷ strikes 2 ∷ keeps 1 ∷ []) ≡ between 2 8 ∷ []
  -- a refused call is not in force, and a refused strike strikes nothing
  pub refused_pinch : windows_after (adds 0 10 1 ∷ entry (Call.Pinch 2 1 2) (Answer.Refused Refusal.NoLine) ∷ []) ≡ between 0 10 ∷ []
  pub refused_strike :
      windows_after (adds 0 10 1 ∷ opens 1 ∷ pinches 1 2 8 ∷ entry (Call.Strike 8 1) (Answer.Refused Refusal.WrongTicket) ∷ []) ≡ between 2 8 ∷ []
  -- an open try goes by the number of calls before its open, the latest first
  pub open_tries : tries (after (adds 0 10 1 ∷ opens 1 ∷ pinches 1 2 8 ∷ opens 2 ∷ opens 3 ∷ keeps 3 ∷ [])) ≡ 3 ∷ 1 ∷ []

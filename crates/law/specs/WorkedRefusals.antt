-- Worked refusals: which case answers where several apply. One small meaning, and sheets numbered 7.
--   small   top 100; kind 2 names three lines, kind 5 two; nothing satisfies a rule
-- Assumes nothing.
use Rattle.std.specs.Prelude.{◌≡◌, ℕ, Bool, true, false, ◌⊎◌, replicate, Some, None, Option, ◌==◌, refl}
use Rattle.std.proofs.Common.{inl, inr}
use Rattle.windows.specs.Meanings.{Meaning}
use Rattle.law.specs.declared.calls.State.{State}
use Rattle.law.specs.declared.calls.Rule.{Rule}
use Rattle.law.specs.declared.calls.Call.{Call}
use Rattle.law.specs.declared.calls.Refusal.{Refusal}
use Rattle.law.specs.declared.calls.Refusal.TheVariants.{Ends, NoLine, Twice, NoKind, Full, Empties, IsBarren, TooManyTries, WrongTicket}
use Rattle.law.specs.Sheets.{Core, Model, between}
use Rattle.law.specs.Table.{verdict}

-- Three lines where the first test holds, two where the second does.
abbrev pub three_or_two : Bool → Bool → ℕ
three_or_two true b = 3
three_or_two false true = 2
three_or_two false false = 0

-- Each kind names 0, 2 or 3 lines.
abbrev pub names_few : (a b : Bool) → (three_or_two a b ≡ 0) ⊎ ((three_or_two a b ≡ 2) ⊎ (three_or_two a b ≡ 3))
names_few true b = inr (inr refl)
names_few false true = inr (inl refl)
names_few false false = inl refl

-- The small meaning.
abbrev pub small : Meaning
small =
    record {
      top = 100;
      arity = λ kind. three_or_two (kind == 2) (kind == 5);
      related = λ kind xs. ⊥;
      counts = λ kind. names_few (kind == 2) (kind == 5);
    }

-- A rule.
abbrev pub rule : ℕ → ℕ → ℕ → ℕ → Rule
rule kind a b c = record { kind = kind; a = a; b = b; c = c }

-- A sheet of so many lines, each 10 to 20, and so many rules, with so many tries open.
abbrev pub sheet : State → ℕ → ℕ → ℕ → Model
sheet state lines rules tries =
    let core : Core = record { state = state; windows = replicate lines (between 10 20); rules = replicate rules (rule 5 1 2 0) } in
    record { core = core; saved = replicate tries core }

-- The verdict on a call on such a sheet.
abbrev pub on : Model → Call → Option Refusal
on s call = verdict small 7 s call

-- The worked refusals.
pub record WorkedRefusals : Type 0 where
  -- a line: barren, then its ends, then room
  pub line_barren : on (sheet State.Barren 64 0 0) (Call.Line 3 2) ≡ Some IsBarren
  pub line_crossed : on (sheet State.Standing 64 0 0) (Call.Line 3 2) ≡ Some Ends
  pub line_above : on (sheet State.Standing 3 0 0) (Call.Line 3 101) ≡ Some Ends
  pub line_full : on (sheet State.Standing 64 0 0) (Call.Line 2 3) ≡ Some Full
  pub line_last : on (sheet State.Standing 63 0 0) (Call.Line 3 100) ≡ None
  -- a rule: barren, then the kind, then the lines, then one line named twice, then room
  pub rule_barren : on (sheet State.Barren 2 128 0) (Call.Rule (rule 9 1 1 1)) ≡ Some IsBarren
  pub rule_no_kind : on (sheet State.Unsettled 2 128 0) (Call.Rule (rule 9 3 3 3)) ≡ Some NoKind
  pub rule_no_line : on (sheet State.Unsettled 2 128 0) (Call.Rule (rule 2 3 3 1)) ≡ Some NoLine
  pub rule_line_zero : on (sheet State.Unsettled 2 0 0) (Call.Rule (rule 5 0 1 0)) ≡ Some NoLine
  pub rule_third : on (sheet State.Unsettled 2 128 0) (Call.Rule (rule 5 1 1 2)) ≡ Some NoLine
  pub rule_twice : on (sheet State.Unsettled 2 128 0) (Call.Rule (rule 5 1 1 0)) ≡ Some Twice
  pub rule_full : on (sheet State.Unsettled 2 128 0) (Call.Rule (rule 5 1 2 0)) ≡ Some Full
  pub rule_last : on (sheet State.Unsettled 2 127 0) (Call.Rule (rule 5 2 1 0)) ≡ None
  -- a pinch: barren, then the line, then its ends, then whether it would empty the window
  pub pinch_barren : on (sheet State.Barren 2 0 0) (Call.Pinch 3 3 2) ≡ Some IsBarren
  pub pinch_no_line : on (sheet State.Standing 2 0 0) (Call.Pinch 3 3 2) ≡ Some NoLine
  pub pinch_crossed : on (sheet State.Standing 2 0 0) (Call.Pinch 2 3 2) ≡ Some Ends
  pub pinch_empties : on (sheet State.Standing 2 0 0) (Call.Pinch 2 21 30) ≡ Some Empties
  pub pinch_cuts : on (sheet State.Standing 2 0 0) (Call.Pinch 2 20 30) ≡ None
  -- settle and open: barren; open: then eight tries
  pub settle_barren : on (sheet State.Barren 2 0 0) (Call.Settle 5) ≡ Some IsBarren
  pub open_barren : on (sheet State.Barren 2 0 8) Call.Open ≡ Some IsBarren
  pub open_ninth : on (sheet State.Standing 2 0 8) Call.Open ≡ Some TooManyTries
  pub open_eighth : on (sheet State.Standing 2 0 7) Call.Open ≡ None
  -- keep: barren, then the ticket; strike: the ticket alone
  pub keep_barren : on (sheet State.Barren 2 0 2) (Call.Keep 8 2) ≡ Some IsBarren
  pub keep_outer : on (sheet State.Standing 2 0 2) (Call.Keep 7 1) ≡ Some WrongTicket
  pub keep_innermost : on (sheet State.Standing 2 0 2) (Call.Keep 7 2) ≡ None
  pub strike_other : on (sheet State.Barren 2 0 2) (Call.Strike 8 2) ≡ Some WrongTicket
  pub strike_none : on (sheet State.Standing 2 0 0) (Call.Strike 7 0) ≡ Some WrongTicket
  pub strike_barren : on (sheet State.Barren 2 0 2) (Call.Strike 7 2) ≡ None

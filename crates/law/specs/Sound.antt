-- Sound sheets: sheets whose numbers are all in order. Every sheet that a history leads to is sound.
--   fits      a window with its ends in order and up to the top; a rule of a kind that the book has, over lines that are there and differ
--   decided   a try of which it is known that it has no choice, or what its smallest box is
-- Assumes nothing.
use Rattle.std.specs.Prelude.{◌≡◌, ℕ, ◌≤◌, false, List, length}
use Rattle.windows.specs.Spans.{Span, Every}
use Rattle.windows.specs.Choices.{NoChoice, Smallest}
use Rattle.windows.specs.Meanings.{Meaning}
use Rattle.law.specs.declared.calls.Rule.{Rule}
use Rattle.law.specs.declared.calls.Call.{Call}
use Rattle.law.specs.declared.calls.Answer.{Answer}
use Rattle.law.specs.Sheets.{Core, Model, named, most_lines, most_rules, most_tries}
use Rattle.law.specs.Table.{repeats}
use Rattle.law.specs.Runs.{Ending, EndsWith}
use Rattle.law.specs.Steps.{Steps}

-- A window whose ends are in order and up to the top.
pub record Fits (m : Meaning) (w : Span) : Type 0 where
  pub ordered : w.lo ≤ w.hi
  pub up_to_top : w.hi ≤ m.top

-- A line of the number k is there, where there are n.
pub record IsLine (n k : ℕ) : Type 0 where
  pub above_zero : 1 ≤ k
  pub there : k ≤ n

-- A rule of a kind that the book has, whose lines are there, where there are n, and differ; one of two lines names no third.
pub record FitRule (m : Meaning) (n : ℕ) (r : Rule) : Type 0 where
  pub kind_there : 1 ≤ m.arity r.kind
  pub lines_there : Every (IsLine n) (named m r)
  pub different : repeats (named m r) ≡ false
  pub no_third : m.arity r.kind ≡ 2 → r.c ≡ 0

-- A core that is sound.
pub record SoundCore (m : Meaning) (c : Core) : Type 0 where
  pub windows_fit : Every (Fits m) c.windows
  pub rules_fit : Every (FitRule m (length c.windows)) c.rules
  pub few_lines : length c.windows ≤ most_lines
  pub few_rules : length c.rules ≤ most_rules

-- A sheet that is sound, with the cores that its open tries put aside.
pub record Sound (m : Meaning) (s : Model) : Type 0 where
  pub core_sound : SoundCore m s.core
  pub saved_sound : Every (SoundCore m) s.saved
  pub few_tries : length s.saved ≤ most_tries

-- It is known of the windows that they hold no choice, or what their smallest box is.
pub data Decided (R : List ℕ → Type 0) (ws : List Span) : Type 0 where
  has_none : NoChoice R ws → Decided R ws
  closes_to : (vs : List Span) → Smallest R ws vs → Decided R ws

-- Each try of a kind that the book has, on as many windows that fit, is decided: what a book's narrowing must do.
abbrev pub Decides : Meaning → Type 0
Decides m =
    (kind : ℕ) → 1 ≤ m.arity kind → (ws : List Span) → length ws ≡ m.arity kind → Every (Fits m) ws → Decided (m.related kind) ws

-- The run of settle has an ending, from every sound core, where each try is decided.
abbrev pub EndingExists : Meaning → Type 0
EndingExists m = Decides m → (c : Core) → SoundCore m c → (n : ℕ) → (e : Ending) × EndsWith m c.rules n c.windows e

-- Every call on a sound sheet leads somewhere, with an answer, where each try is decided.
abbrev pub Total : Meaning → Type 0
Total m = Decides m → (id : ℕ) (s : Model) → SoundCore m s.core → (call : Call) → (t : Model) × (answer : Answer) × Steps m id s call t answer

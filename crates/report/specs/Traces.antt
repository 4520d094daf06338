-- What trace makes of a stored sheet.
--   settles to   the answer of settle to a sheet as it was stored, and the windows that it leaves
--   comes        the outcome of a load and of the settle after it
--   outcome      the same, with the book that the head names
--   traced       the memory after trace, and its answer
-- The sheet's number is 0; it does not show in a report. Assumes nothing.
use Rattle.std.specs.Prelude.{◌≡◌, ℕ, ◌<◌, ◌≤◌, cond, List, length, Ok, Err, Result}
use Rattle.windows.specs.Meanings.{Meaning}
use Rattle.windows.specs.Spans.{Span, Within}
use Rattle.half.specs.Roundings.{mode_number}
use Rattle.half.specs.declared.mode.Mode.{Mode}
use Rattle.books.specs.CounterBooks.{counter_meaning}
use Rattle.books.specs.HalfBooks.{half_meaning}
use Rattle.law.specs.Boxes.{StandsWithin}
use Rattle.law.specs.declared.calls.Rule.{Rule}
use Rattle.runs.specs.Rounds.{Finished}
use Rattle.runs.specs.declared.settled.Settled.{Settled}
use Rattle.stored.specs.declared.fault.LoadFault.{LoadFault}
use Rattle.stored.specs.Loads.{Progress, bad_length, loads}
use Rattle.stored.specs.Records.{byte}
use Rattle.report.specs.Refused.{Outcome, of_fault, refused_at}
use Rattle.report.specs.Report.{over, report}

-- The allowance of narrowings.
abbrev pub allowance : ℕ
allowance = 100000

-- vs is the greatest box that stands, for the rules, within the windows ws.
pub record GreatestWithin (m : Meaning) (rules : List Rule) (ws vs : List Span) : Type 0 where
  pub stands : StandsWithin m rules ws vs
  pub greatest : (us : List Span) → StandsWithin m rules ws us → Within us vs

-- No box stands, for the rules, within the windows ws.
abbrev pub NoneWithin : Meaning → List Rule → List Span → Type 0
NoneWithin m rules ws = (us : List Span) → StandsWithin m rules ws us → ⊥

-- A settle of the stored windows ws leaves vs with this answer, as its run ends. An answer standing means that vs is the
-- greatest box that stands within the stored windows; an answer barren means that there is none.
pub record SettlesTo (m : Meaning) (rules : List Rule) (ws vs : List Span) (answer : Settled) : Type 0 where
  pub finished : Finished m rules allowance ws vs answer
  pub standing : (k : ℕ) → answer ≡ Settled.Standing k → GreatestWithin m rules ws vs
  pub barren : (k : ℕ) → answer ≡ Settled.Barren k → NoneWithin m rules ws

-- The outcome of a load, and where it was not refused, of the settle after it, which leaves the windows vs.
pub data Comes (m : Meaning) (loaded : Result Progress LoadFault) (o : Outcome) (vs : List Span) : Type 0 where
  refused : (f : LoadFault) → loaded ≡ Err f → o ≡ Err (of_fault f) → Comes m loaded o vs
  settles : (p : Progress) (answer : Settled) → loaded ≡ Ok p → o ≡ Ok answer
      → SettlesTo m p.sheet.core.rules p.sheet.core.windows vs answer → Comes m loaded o vs

-- The outcome of a stored sheet, by the drive in byte 2 and the mode in byte 3 of its head (0 where a file is so short):
-- drive 0 with mode 0, 1 or 2 is the half book of the mode, drive 1 with mode 0 the counter book. Where neither fits, the
-- refusal is 11, but 10 first, where the length is no stored sheet's.
pub data OutcomeOf (input : List ℕ) (o : Outcome) (vs : List Span) : Type 0 where
  by_half : (mode : Mode) → byte input 2 ≡ 0 → byte input 3 ≡ mode_number mode
      → Comes (half_meaning mode) (loads (half_meaning mode) 0 0 (mode_number mode) input) o vs → OutcomeOf input o vs
  by_counter : byte input 2 ≡ 1 → byte input 3 ≡ 0
      → Comes counter_meaning (loads counter_meaning 0 1 0 input) o vs → OutcomeOf input o vs
  by_none : (byte input 2 ≡ 0 → 2 < byte input 3) → (byte input 2 ≡ 1 → 0 < byte input 3)
      → o ≡ Err (refused_at (cond (bad_length (length input)) 10 11) 0) → OutcomeOf input o vs

-- The report of an outcome that is so stands at the start of the memory; what was after it is as it was. The answer is the
-- report's length.
pub record Reported (Is : Outcome → List Span → Type 0) (old new : List ℕ) (answer : ℕ) : Type 0 where
  pub outcome : Outcome
  pub windows : List Span
  pub comes : Is outcome windows
  pub bytes : new ≡ over (report outcome windows) old
  pub count : answer ≡ length (report outcome windows)
  pub short : answer ≤ 1024

-- The same, or memory was wanting for the sheet: the greatest number of 64 bits, which no report has for its length, and
-- the memory stays.
pub data Traced (Is : Outcome → List Span → Type 0) (old new : List ℕ) (answer : ℕ) : Type 0 where
  reported : Reported Is old new answer → Traced Is old new answer
  no_memory : new ≡ old → answer ≡ 18446744073709551615 → Traced Is old new answer

-- What trace does: with under 1,024 bytes of memory it answers 0 and writes nothing.
pub data TraceOf (input old new : List ℕ) (answer : ℕ) : Type 0 where
  too_small : length old < 1024 → new ≡ old → answer ≡ 0 → TraceOf input old new answer
  traced : 1024 ≤ length old → Traced (OutcomeOf input) old new answer → TraceOf input old new answer

-- What trace does in room that was reserved: with under 1,024 bytes of memory it answers 0 and writes nothing; else it writes
-- the report of what the stored sheet comes to.
pub data TraceIn (input old new : List ℕ) (answer : ℕ) : Type 0 where
  below : length old < 1024 → new ≡ old → answer ≡ 0 → TraceIn input old new answer
  written : 1024 ≤ length old → Reported (OutcomeOf input) old new answer → TraceIn input old new answer

-- A trace in room that was reserved leaves one memory, and gives one answer.
abbrev pub UniqueTrace : Type 0
UniqueTrace =
    (input old new new' : List ℕ) (answer answer' : ℕ) →
    TraceIn input old new answer → TraceIn input old new' answer' → (new ≡ new') × (answer ≡ answer')

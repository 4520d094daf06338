-- The law of the sheet: what holds after every history, for every meaning of a book.
--   as run        an accepted settle ended as the run of settle ends
--   brought back  an accepted strike left the core that the open it closes found
--   called        what a call promises: what it did, and the law of every history that led to the sheet, followed by this call
--   played        what a whole list of calls promises, from a sheet just set up
-- Assumes nothing: a law of every history, and of the sheet that it leads to. What is said of the last entry holds of every entry
-- at its time, since the law holds of each history on the way.
use Rattle.std.specs.Prelude.{◌≡◌, ℕ, true, List, ◌∷◌, length}
use Rattle.windows.specs.Meanings.{Meaning}
use Rattle.windows.specs.Spans.{Span, Within}
use Rattle.law.specs.declared.calls.State.{State}
use Rattle.law.specs.declared.calls.Call.{Call}
use Rattle.law.specs.declared.calls.Answer.{Answer}
use Rattle.law.specs.Sheets.{Core, Model}
use Rattle.law.specs.Histories.{History, entry, accepted, earliest, history}
use Rattle.law.specs.Steps.{Settles, Steps, Reached}
use Rattle.law.specs.Force.{tries, InForce, rules_in, windows_in}
use Rattle.law.specs.Boxes.{Greatest, NoneStands, StandsWithin}
use Rattle.law.specs.Sound.{Sound}

-- Settle with the allowance n, after the history g, led to t and answered as the run of settle ends.
pub record AsRun (m : Meaning) (id : ℕ) (g : History) (n : ℕ) (t : Model) (answer : Answer) : Type 0 where
  pub before : Model
  pub reached : Reached m id g before
  pub ran : Settles m before n t answer

-- The core, with its state, windows and rules, is that of the sheet found by the open of the latest try still open after the history g.
pub record BroughtBack (m : Meaning) (id : ℕ) (g : History) (c : Core) : Type 0 where
  pub latest : ℕ
  pub others : List ℕ
  pub closes : tries g ≡ latest ∷ others
  pub found : Model
  pub reached : Reached m id (earliest latest g) found
  pub same : c ≡ found.core

-- The law, of a history and the sheet that it leads to.
pub record Law (m : Meaning) (id : ℕ) (h : History) (s : Model) : Type 0 where
  -- while the sheet is standing, its windows are the greatest box that stands within the windows in force
  pub standing : s.core.state ≡ State.Standing → Greatest m (InForce h) s.core.windows
  -- while the sheet is barren, no box stands within the windows in force
  pub barren : s.core.state ≡ State.Barren → NoneStands m (InForce h)
  -- nor at an answer barren
  pub none_stands : (call : Call) (k : ℕ) (g : History) → h ≡ entry call (Answer.Barren k) ∷ g → NoneStands m (InForce h)
  -- an accepted settle ended as the run says
  pub as_run :
      (n : ℕ) (answer : Answer) (g : History) → h ≡ entry (Call.Settle n) answer ∷ g → accepted answer ≡ true →
      AsRun m id g n s answer
  -- an accepted strike brought back what the open that it closes found
  pub brought_back :
      (number depth : ℕ) (answer : Answer) (g : History) → h ≡ entry (Call.Strike number depth) answer ∷ g → accepted answer ≡ true →
      BroughtBack m id g s.core
  -- no box that stands within the windows in force is ever lost from the sheet's windows, in whichever state
  pub keeps : (vs : List Span) → StandsWithin m (rules_in (InForce h)) (windows_in (InForce h)) vs → Within vs s.core.windows
  -- the sheet has a window for each line in force, within its window in force, and the rules in force
  pub within : Within s.core.windows (windows_in (InForce h))
  pub same_rules : s.core.rules ≡ rules_in (InForce h)
  -- there is a saved core for each open try
  pub same_tries : length s.saved ≡ length (tries h)
  pub sound : Sound m s

-- The law holds of every sheet that a history leads to, for this meaning of a book.
abbrev pub Lawful : Meaning → Type 0
Lawful m = (id : ℕ) (h : History) (s : Model) → Reached m id h s → Law m id h s

-- A call on the sheet s led to t, with this answer. What it did is said of a sound sheet: a sheet just set up is sound,
-- every call leaves a sound sheet sound, and every sheet that a history leads to is sound.
-- The law holds of every history that led to s followed by this call.
pub record Called (m : Meaning) (id : ℕ) (s : Model) (call : Call) (t : Model) (answer : Answer) : Type 0 where
  pub step : Sound m s → Steps m id s call t answer
  pub sound : Sound m s → Sound m t
  pub reached : (h : History) → Reached m id h s → Reached m id (entry call answer ∷ h) t
  pub law : (h : History) → Reached m id h s → Law m id (entry call answer ∷ h) t

-- Some sheet that the history leads to, and the law of both.
pub record Along (m : Meaning) (id : ℕ) (h : History) : Type 0 where
  pub sheet : Model
  pub reached : Reached m id h sheet
  pub law : Law m id h sheet

-- The calls, made in this order on a sheet just set up, led to s with these answers; and the law holds.
pub record Played (m : Meaning) (id : ℕ) (calls : List Call) (answers : List Answer) (s : Model) : Type 0 where
  pub answered : length answers ≡ length calls
  pub reached : Reached m id (history calls answers) s
  pub law : Law m id (history calls answers) s
  -- and on the way: after the first k of the calls, for each k
  pub along : (k : ℕ) → Along m id (earliest k (history calls answers))

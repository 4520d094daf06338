-- A load's outcome, concluded: what a trace has to show on its way.
-- Assumes nothing.
use Rattle.std.specs.Prelude.{◌≡◌, ℕ, true, List, Option, Result}
use Rattle.windows.specs.Meanings.{Meaning}
use Rattle.windows.specs.Spans.{Span}
use Rattle.law.specs.Sheets.{Model}
use Rattle.stored.specs.declared.fault.LoadFault.{LoadFault}
use Rattle.stored.specs.Loads.{Progress, loads}
use Rattle.stored.specs.Loads as stored-loads
use Rattle.report.specs.Refused.{Outcome}
use Rattle.report.specs.Report.{printable}
use Rattle.report.specs.Traces.{Comes}

-- The outcome and the windows left are those of the load, and can be printed.
pub record Concluded (m : Meaning) (loaded : Result Progress LoadFault) (o : Outcome) (vs : List Span) : Type 0 where
  pub comes : Comes m loaded o vs
  pub prints : printable vs ≡ true

-- They are so for every file whose load left this sheet and fault.
abbrev pub Concludes : Meaning → ℕ → Model → Option LoadFault → Outcome → List Span → Type 0
Concludes m id s fault o vs =
    (drive mode : ℕ) (bytes : List ℕ) → stored-loads.Outcome m id s fault (loads m id drive mode bytes) → Concluded m (loads m id drive mode bytes) o vs

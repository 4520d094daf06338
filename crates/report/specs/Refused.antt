-- What comes of a stored sheet, and what a report tells of a refusal.
-- Assumes nothing.
use Rattle.std.specs.Prelude.{ℕ, Result}
use Rattle.law.specs.Refusals.{numbered}
use Rattle.law.specs.declared.calls.Refusal.{Refusal}
use Rattle.runs.specs.declared.settled.Settled.{Settled}
use Rattle.stored.specs.Faults.{load_at, load_number}
use Rattle.stored.specs.declared.fault.LoadFault.{LoadFault}
use Rattle.report.specs.declared.refused.RefusedAt.{RefusedAt}

-- What comes of a stored sheet: what its settle answered, or a refusal.
abbrev pub Outcome : Type 0
Outcome = Result Settled RefusedAt

-- The refusal of this number, at the record of this index.
abbrev pub refused_at : (number at : ℕ) → RefusedAt
refused_at number at = record { number = number; at = at }

-- A fault of load, as a report tells it.
abbrev pub of_fault : LoadFault → RefusedAt
of_fault f = refused_at (load_number f) (load_at f)

-- A refusal of a call, which blames no record.
abbrev pub of_refusal : Refusal → RefusedAt
of_refusal why = refused_at (numbered why) 0

-- The refusal in a result.
-- Assumes nothing.
use Rattle.std.specs.Prelude.{Some, None, Ok, Err, Option, Result}
use Rattle.law.specs.declared.calls.Refusal.{Refusal}

-- None where the call is accepted.
abbrev pub fault : {X : Type 0} → Result X Refusal → Option Refusal
fault (Ok x) = None
fault (Err why) = Some why

-- The state and the event together decide the next state.
--   change   a line, a rule or a pinch that was taken
--   run      a settle: unsettled while it runs, and where its allowance is used up
--   hold     an open or a keep
--   restore  a strike, with the state that its open found
-- Assumes nothing.
use Rattle.std.specs.Prelude.{Ok, Err, Result}
use Rattle.law.specs.declared.calls.State.{State}
use Rattle.law.specs.declared.calls.Refusal.{Refusal}
use Rattle.tables.specs.declared.state.Event.{Event}

abbrev pub follows : State → Event → Result State Refusal
follows State.Unsettled Event.Change = Ok State.Unsettled
follows State.Unsettled Event.Run = Ok State.Unsettled
follows State.Unsettled Event.Hold = Ok State.Unsettled
follows State.Unsettled (Event.Restore found) = Ok found
follows State.Standing Event.Change = Ok State.Unsettled
follows State.Standing Event.Run = Ok State.Unsettled
follows State.Standing Event.Hold = Ok State.Standing
follows State.Standing (Event.Restore found) = Ok found
follows State.Barren Event.Change = Err Refusal.IsBarren
follows State.Barren Event.Run = Err Refusal.IsBarren
follows State.Barren Event.Hold = Err Refusal.IsBarren
follows State.Barren (Event.Restore found) = Ok found

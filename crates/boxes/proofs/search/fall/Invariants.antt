use Rattle.std.proofs.Common.{◌<◌}
use Rattle.boxes.proofs.Halving.{Halving}
use Rattle.boxes.proofs.search.fall.Given as goal

abbrev pub invariant-loop-step : goal.invariant-loop-step
invariant-loop-step g l = (0 < l.step) × Halving (g.O.Operation.code l.op l.x) l.from l.end l.t l.from l.high

abbrev pub decreases-loop-step : goal.decreases-loop-step
decreases-loop-step g l = l.high

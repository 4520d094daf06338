use Rattle.std.proofs.Common.{◌-◌}
use Rattle.boxes.proofs.Halving.{Halving}
use Rattle.boxes.proofs.search.halve.Given as goal

abbrev pub invariant-loop-low : goal.invariant-loop-low
invariant-loop-low g l = Halving (g.O.Operation.code l.op l.x) l.initial.low l.initial.high l.t l.low l.high

abbrev pub decreases-loop-low : goal.decreases-loop-low
decreases-loop-low g l = l.high - l.low

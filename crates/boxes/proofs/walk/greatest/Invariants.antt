use Rattle.std.proofs.Common.{◌-◌}
use Rattle.boxes.proofs.Bands.{Growing}
use Rattle.boxes.proofs.walk.greatest.Given as goal

abbrev pub invariant-loop-best : goal.invariant-loop-best
invariant-loop-best g l = Growing (g.O.Operation.code l.op) l.field l.best

abbrev pub decreases-loop-best : goal.decreases-loop-best
decreases-loop-best g l = l.field.end - l.best.code

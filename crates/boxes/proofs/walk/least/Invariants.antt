use Rattle.boxes.proofs.Bands.{Falling}
use Rattle.boxes.proofs.walk.least.Given as goal

abbrev pub invariant-loop-best : goal.invariant-loop-best
invariant-loop-best g l = Falling (g.O.Operation.code l.op) l.field l.best

abbrev pub decreases-loop-best : goal.decreases-loop-best
decreases-loop-best g l = l.best.code

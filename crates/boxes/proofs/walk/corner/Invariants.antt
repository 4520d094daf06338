use Rattle.std.proofs.Common.{◌+◌, ◌-◌}
use Rattle.boxes.proofs.Staircase.{Walking}
use Rattle.boxes.proofs.walk.corner.Given as goal

abbrev pub invariant-walk : goal.invariant-walk
invariant-walk g l = Walking (g.O.Operation.code l.op) l.field l.x l.y

abbrev pub decreases-walk : goal.decreases-walk
decreases-walk g l = (l.field.x1 - l.x) + l.y

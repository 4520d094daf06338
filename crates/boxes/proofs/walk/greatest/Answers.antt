use Rattle.boxes.proofs.Bands.{growing_right, growing_next}
use Rattle.boxes.proofs.walk.greatest.Goals as goal

pub loop-best-preserved : goal.loop-best-preserved
loop-best-preserved g c =
    growing_right (g.O.Operation.code c.args.op) (g.met.O.Operation.rises c.args.op) c.args.field c.in-Some.next c.rightmost-best-in-loop-best.result
    (growing_next (g.O.Operation.code c.args.op) c.args.field c.loop-best.best c.in-Some.next c.above.result c.loop-best.invariant c.above.ensures c.in-Some.ensures)
    c.rightmost-best-in-loop-best.ensures

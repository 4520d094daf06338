use Rattle.desk.proofs.Hands.{pinch_said, plain_in_step}
use Rattle.desk.proofs.folder.Folder.plain.Goals as goal

pub invariant_of-self : goal.invariant_of-self
invariant_of-self g c =
    record {
      in_step =
          plain_in_step c.args.call (cc) c.line.ensures.number
          (cc) c.args.self.now.in_step c.line.ensures.called;
    }

pub invariant_of-self-in-Rule : goal.invariant_of-self-in-Rule
invariant_of-self-in-Rule g c =
    record {
      in_step =
          plain_in_step c.args.call (cc) c.rule.ensures.number
          (cc) c.args.self.now.in_step c.rule.ensures.called;
    }

pub invariant_of-self-in-Pinch : goal.invariant_of-self-in-Pinch
invariant_of-self-in-Pinch g c =
    record {
      in_step =
          plain_in_step c.args.call (cc) c.pinch.ensures.number
          (cc) c.args.self.now.in_step c.pinch.ensures.called;
    }

pub invariant_of-self-in-Settle : goal.invariant_of-self-in-Settle
invariant_of-self-in-Settle g c =
    record {
      in_step =
          plain_in_step c.args.call (cc) c.settle.ensures.number
          (cc) c.args.self.now.in_step c.settle.ensures.called;
    }

pub returns-in-Pinch-clause-called : goal.returns-in-Pinch-clause-called
returns-in-Pinch-clause-called g c =
    rw (c.in-Pinch.is, pinch_said c.pinch.result c.err.result c.map_or.result c.err.ensures.value c.map_or.ensures) c.pinch.ensures.called

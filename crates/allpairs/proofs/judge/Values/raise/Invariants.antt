-- The walk stays among the codes, and each turn leaves fewer above.
use Rattle.std.proofs.Common.{◌-◌, ◌≤◌}
use Rattle.allpairs.proofs.judge.Values.raise.Given as goal

abbrev pub invariant-loop-floor : goal.invariant-loop-floor
invariant-loop-floor l = l.floor ≤ 31744

abbrev pub decreases-loop-floor : goal.decreases-loop-floor
decreases-loop-floor l = 31744 - l.floor

use Rattle.std.proofs.Common.{◌≡◌, drop}
use Rattle.law.specs.Table.{first}
use Rattle.law.proofs.table.first_fault.Given as goal

-- none of the cases passed by applies
abbrev pub invariant-loop-check : goal.invariant-loop-check
invariant-loop-check l = first (drop l.check-index l.checks) ≡ first l.checks

use Rattle.std.proofs.Common.{length, ap, arith}
use Rattle.std.proofs.lemmas.Fmt.{decimal_digit, length-decimal-le}
use Rattle.report.proofs.Adding.{length_digits}
use Rattle.report.proofs.lines.digits.Goals as goal

pub overflow_add-count : goal.overflow_add-count
overflow_add-count c = omega (arith, c.loop-left.invariant, length-decimal-le 10 c.args.n (omega arith) (omega arith) (omega arith))

pub loop-left-preserved : goal.loop-left-preserved
loop-left-preserved c = (omega (arith, c.loop-left.invariant, length_digits c.loop-left.left (omega arith) (omega arith)), omega (arith, c.loop-left.invariant))

pub returns : goal.returns
returns c = omega (arith, c.loop-left.invariant, ap length (decimal_digit c.loop-left.left (omega arith)))

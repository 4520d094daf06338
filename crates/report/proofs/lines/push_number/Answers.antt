use Rattle.std.proofs.Common.{length, decimal, ap, arith}
use Rattle.std.proofs.lemmas.Fmt.{length-decimal-le}
use Rattle.report.proofs.lines.push_number.Goals as goal

pub overflow_add-end : goal.overflow_add-end
overflow_add-end c = omega (arith, length-decimal-le 10 c.args.n (omega arith) (omega arith) (omega arith))

pub write_digits-requires : goal.write_digits-requires
write_digits-requires c = (omega (arith, ap (λ n. length (decimal n)) c.from.ensures), omega (arith, length-decimal-le 10 c.args.n (omega arith) (omega arith) (omega arith)))

pub returns-clause-number : goal.returns-clause-number
returns-clause-number c = omega (arith, length-decimal-le 10 c.args.n (omega arith) (omega arith) (omega arith))

pub returns-clause-code : goal.returns-clause-code
returns-clause-code c small = omega (arith, length-decimal-le 5 c.args.n (omega arith) (omega arith) (omega arith))

pub returns-clause-line : goal.returns-clause-line
returns-clause-line c small = omega (arith, length-decimal-le 2 c.args.n (omega arith) (omega arith) (omega arith))

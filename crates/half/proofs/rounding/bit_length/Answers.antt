-- The length of a number by its leading zeros.
use Rattle.std.proofs.Common.{arith}
use Rattle.half.proofs.Placed.{length_of}
use Rattle.half.proofs.rounding.bit_length.Goals as goal

pub returns : goal.returns
returns c = length_of c.args.n (omega arith)

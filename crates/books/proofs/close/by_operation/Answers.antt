-- The smallest box of the operation, told of the rule's three windows.
use Rattle.std.proofs.Common.{subst₂}
use Rattle.books.specs.Kinds.{Made}
use Rattle.books.specs.Narrowings.{Closes}
use Rattle.books.proofs.Threes.{three_closes}
use Rattle.books.proofs.close.by_operation.Goals as goal

-- The operation's smallest box is the rule's.
pub returns : goal.returns
returns g c =
    let f = g.O.Operation.code c.args.op in
    subst₂ (Closes 3 (Made f)) (cc) (cc) (three_closes f c.interval.result c.interval-2.result c.interval-3.result c.in_ok-closed.closed c.in_ok-closed.ensures)

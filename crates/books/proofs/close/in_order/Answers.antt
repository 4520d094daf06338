-- Two windows whose codes are in order: apart, or both cut at the other's end.
use Rattle.std.proofs.Common.{[], ◌∷◌, subst, arith}
use Rattle.windows.specs.Choices.{Smallest}
use Rattle.windows.specs.Windows.{span}
use Rattle.books.specs.Kinds.{IsNotAfter}
use Rattle.books.proofs.Twos.{two_closes}
use Rattle.books.proofs.close.in_order.Goals as goal

-- Both windows are cut at the other's end.
pub returns : goal.returns
returns c = subst (Smallest IsNotAfter (span c.args.a ∷ span c.args.b ∷ [])) (cc)
    (two_closes (span c.args.a) (span c.args.b) c.args.a.ordered c.args.b.ordered (omega arith))

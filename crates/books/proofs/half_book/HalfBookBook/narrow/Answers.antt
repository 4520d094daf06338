-- Product and sum round in the book's mode.
use Rattle.std.proofs.Common.{subst₂}
use Rattle.half.specs.Formats.{half}
use Rattle.half.specs.Roundings.{product, sum}
use Rattle.books.specs.HalfBooks.{half_lines}
use Rattle.books.specs.Kinds.{MeetsOf, among, two_to_five}
use Rattle.books.specs.Narrowings.{Answered, spans}
use Rattle.books.proofs.half_book.HalfBookBook.narrow.Goals as goal

pub returns : goal.returns
returns c =
    subst₂ (λ p s. Answered 31743 (half_lines c.args.kind) (MeetsOf (product half p) (sum half s) 31743 (among two_to_five c.args.kind)) (spans c.args.windows) c.narrow.result)
    c.new.ensures c.new-2.ensures c.narrow.ensures

-- One answer to each kind, whatever the book's meaning.
use Rattle.books.proofs.Once.{one_answer}
use Rattle.books.proofs.theorems.one_answer.Goals as goal

pub returns-clause-one : goal.returns-clause-one
returns-clause-one g c = λ kind. one_answer (g.B.Book.meaning c.args.book.now) kind

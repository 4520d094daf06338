-- The tickets are in step, and there is one less each time.
use Rattle.desk.specs.Hands.{InStep}
use Rattle.tables.specs.Views.{model}
use Rattle.std.proofs.Common.{vec_items, vec_len, vec_capacity}
use Rattle.desk.proofs.folder.Folder.close.Given as goal

abbrev pub invariant-loop-ticket : goal.invariant-loop-ticket
invariant-loop-ticket g l =
    InStep (g.B.Book.meaning l.sheet.book) l.sheet.number
    (model l.sheet.tables) (vec_items l.hand) (vec_capacity l.hand)

abbrev pub decreases-loop-ticket : goal.decreases-loop-ticket
decreases-loop-ticket g l = vec_len l.hand

use Rattle.std.proofs.Common.{ℕ, subst₂}
use Rattle.tables.specs.Views.{model}
use Rattle.stored.specs.Loads.{UnderLaw, loads}
use Rattle.stored.proofs.Walks.{law_left}
use Rattle.stored.proofs.load.load_in.Goals.{then-is_some, else-is_some}
use Rattle.stored.proofs.load.load_in.Goals as goal

-- the sheet is filled under the number and the book that it was set up with, and kept where there is no fault
pub returns-clause-law : goal.returns-clause-law
returns-clause-law g c =
    subst₂ (λ (b : g.row.B.Denot) (n : ℕ). UnderLaw (g.B.Book.meaning b) n (model c.if-is_some.sheet.tables) (loads (g.B.Book.meaning b) n g.B.Book.DRIVE (g.B.Book.mode b) c.args.bytes.now))
    c.in_room-sheet.ensures.book c.in_room-sheet.ensures.number
    (law_left _ _ (model c.fill.new.sheet.tables) _ c.fill.result _ c.fill.ensures.filled
    (λ e. elim c.if-is_some.branch [
      | then-is_some w ↦ cc (c.is_some.ensures, c.err-fault.ensures.value, w.if-is_some.true, e)
      | else-is_some w ↦ cc w.sheet-is
    ]))

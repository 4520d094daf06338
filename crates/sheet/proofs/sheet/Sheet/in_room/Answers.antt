use Rattle.std.proofs.Common.{[], sym, refl, subst}
use Rattle.windows.specs.Meanings.{Meaning}
use Rattle.law.specs.Steps.{Reached, set_up}
use Rattle.law.proofs.Law.{lawful}
use Rattle.tables.specs.Views.{model}
use Rattle.sheet.proofs.sheet.Sheet.in_room.Goals as goal

-- no call leads to the empty sheet
pub returns : goal.returns
returns g c =
    let m : Meaning = g.B.Book.meaning c.args.book in
    let reached : Reached m c.args.number [] (model c.new.result) = subst (Reached m c.args.number []) (sym c.new.ensures) set_up in
    record { empty = c.new.ensures; number = refl; book = refl; reached = reached; law = lawful m c.args.number [] (model c.new.result) reached }

use Rattle.std.proofs.Common.{subst}
use Rattle.tables.specs.Views.{model}
use Rattle.stored.specs.Loads.{LedTo}
use Rattle.stored.proofs.Walks.{load_led}
use Rattle.stored.proofs.reload.load_again.Goals as goal

-- some history leads to what comes back
pub returns-clause-led : goal.returns-clause-led
returns-clause-led g c =
    subst (λ b. LedTo (g.B.Book.meaning b) c.args.number (model c.load_in.result.sheet.tables))
    c.book.ensures (load_led _ c.args.number (model c.load_in.result.sheet.tables) c.load_in.result.fault _ c.load_in.ensures.loaded)

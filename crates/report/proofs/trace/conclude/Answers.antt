use Rattle.std.proofs.Common.{ℕ, ◌≤◌, Err, refl, sym, subst, ap}
use Rattle.tables.specs.Views.{model}
use Rattle.report.proofs.Traces.{conclude_fault, conclude_never, conclude_settled, loads_unsettled}
use Rattle.report.proofs.trace.conclude.Goals as goal

-- the load was refused
pub returns-in-Some : goal.returns-in-Some
returns-in-Some g c drive mode bytes loaded =
    conclude_fault _ c.args.loaded.now.sheet.number (model c.args.loaded.now.sheet.tables) c.args.loaded.now.fault c.in-Some.fault _ _
    c.in-Some.is (ap Err c.into.ensures) loaded

-- the settle answered
pub returns-in_ok-settle-in-None : goal.returns-in_ok-settle-in-None
returns-in_ok-settle-in-None g c drive mode bytes loaded =
    conclude_settled _ c.args.loaded.now.sheet.number (model c.args.loaded.now.sheet.tables) (model c.settle.new.self.tables)
    c.args.loaded.now.fault c.in_ok-settle-in-None.field-0 _ _ (subst (λ (n : ℕ). n ≤ 65535) (sym (g.met.B.Book.top c.args.loaded.now.sheet.book)) g.met.B.Book.small) c.in-None.is refl c.in_ok-settle-in-None.ensures.verdict c.in_ok-settle-in-None.ensures.called loaded

-- it is never refused
pub returns-in_err-settle-in-None : goal.returns-in_err-settle-in-None
returns-in_err-settle-in-None g c drive mode bytes loaded =
    conclude_never _ c.args.loaded.now.sheet.number (model c.args.loaded.now.sheet.tables) c.args.loaded.now.fault c.in_err-settle-in-None.field-0.0 _
    (loads_unsettled _ c.args.loaded.now.sheet.number drive mode bytes) c.in-None.is c.in_err-settle-in-None.ensures.verdict loaded

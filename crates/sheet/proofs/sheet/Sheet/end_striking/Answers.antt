use Rattle.std.proofs.Common.{ℕ, sym, refl, ◌∙◌}
use Rattle.std.proofs.lemmas.Result.{err_from_is_err_and}
use Rattle.windows.specs.Meanings.{Meaning}
use Rattle.law.specs.declared.calls.Answer.{Answer}
use Rattle.law.specs.declared.calls.Call.{Call}
use Rattle.law.specs.Steps.{does, refused}
use Rattle.tables.specs.Views.{model}
use Rattle.sheet.proofs.Verdicts.{strike_verdict, turned_away, taken}
use Rattle.sheet.proofs.Numbers.{never_turned}
use Rattle.sheet.proofs.sheet.Sheet.end_striking.Goals as goal

-- the call is turned away
pub returns-in_err-check_ticket : goal.returns-in_err-check_ticket
returns-in_err-check_ticket g c =
    let m : Meaning = g.B.Book.meaning c.args.self.now.book in
    let id : ℕ = c.args.self.now.number in
    let t = c.args.self.now.tables in
    let p = err_from_is_err_and c.from_residual.result c.from_residual.ensures.1 in
    rw (p.1, p.2) (record {
      called = turned_away m id (model t) (Call.Strike c.args.number c.args.depth) _ (strike_verdict t m id c.args.number c.args.depth ∙ sym c.in_err-check_ticket.ensures);
      step = refused _ (strike_verdict t m id c.args.number c.args.depth ∙ sym c.in_err-check_ticket.ensures) refl refl;
      number = refl;
      book = refl;
      accepts = λ inner. absurd (never_turned t id c.args.number c.args.depth _ inner c.in_err-check_ticket.ensures);
    })

-- it is taken
pub returns : goal.returns
returns g c =
    let m : Meaning = g.B.Book.meaning c.args.self.now.book in
    let id : ℕ = c.args.self.now.number in
    let t = c.args.self.now.tables in
    record {
      called = taken m id (model t) (Call.Strike c.args.number c.args.depth) (model c.strike_try.new.self) Answer.Struck (strike_verdict t m id c.args.number c.args.depth ∙ sym c.in_ok-check_ticket.ensures) (c.strike_try.ensures, refl);
      step = does (strike_verdict t m id c.args.number c.args.depth ∙ sym c.in_ok-check_ticket.ensures) (c.strike_try.ensures, refl);
      number = refl;
      book = refl;
      accepts = λ inner. refl;
    }

use Rattle.std.proofs.Common.{ℕ, vec_len, sym, refl, ◌∙◌}
use Rattle.std.proofs.lemmas.Result.{err_from_is_err_and}
use Rattle.windows.specs.Meanings.{Meaning}
use Rattle.law.specs.declared.calls.Answer.{Answer}
use Rattle.law.specs.declared.calls.Call.{Call}
use Rattle.law.specs.Steps.{does, refused}
use Rattle.tables.specs.Views.{model}
use Rattle.sheet.proofs.Verdicts.{keep_verdict, turned_away, taken, unbarred}
use Rattle.law.specs.Table.{ticket_cases}
use Rattle.sheet.proofs.Numbers.{never_turned}
use Rattle.sheet.proofs.sheet.Sheet.end_keeping.Goals as goal

-- the call is turned away
pub returns-in_err-check_keep : goal.returns-in_err-check_keep
returns-in_err-check_keep g c =
    let m : Meaning = g.B.Book.meaning c.args.self.now.book in
    let id : ℕ = c.args.self.now.number in
    let t = c.args.self.now.tables in
    let p = err_from_is_err_and c.from_residual.result c.from_residual.ensures.1 in
    rw (p.1, p.2) (record {
      called = turned_away m id (model t) (Call.Keep c.args.number c.args.depth) _ (sym c.in_err-check_keep.ensures);
      step = refused _ (sym c.in_err-check_keep.ensures) refl refl;
      number = refl;
      book = refl;
      accepts = λ inner alive. absurd (never_turned t id c.args.number c.args.depth _ inner (c.in_err-check_keep.ensures ∙ keep_verdict t m id c.args.number c.args.depth ∙ unbarred t.state (ticket_cases id (vec_len t.tries) c.args.number c.args.depth) alive));
    })

-- it is taken
pub returns : goal.returns
returns g c =
    let m : Meaning = g.B.Book.meaning c.args.self.now.book in
    let id : ℕ = c.args.self.now.number in
    let t = c.args.self.now.tables in
    record {
      called = taken m id (model t) (Call.Keep c.args.number c.args.depth) (model c.keep_try.new.self) Answer.Kept (sym c.in_ok-check_keep.ensures) (c.keep_try.ensures, refl);
      step = does (sym c.in_ok-check_keep.ensures) (c.keep_try.ensures, refl);
      number = refl;
      book = refl;
      accepts = λ inner alive. refl;
    }

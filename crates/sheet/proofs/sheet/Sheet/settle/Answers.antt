use Rattle.std.proofs.Common.{◌≡◌, ℕ, sym, refl, arith}
use Rattle.std.proofs.lemmas.Result.{err_from_is_err_and}
use Rattle.windows.specs.Meanings.{Meaning}
use Rattle.law.specs.declared.calls.Call.{Call}
use Rattle.tables.specs.Views.{model}
use Rattle.law.specs.Steps.{does}
use Rattle.law.proofs.Law.{call_lawful}
use Rattle.sheet.proofs.Verdicts.{settle_barred, settle_cleared, turned_away}
use Rattle.sheet.proofs.sheet.Sheet.settle.Goals as goal

-- the sheet's state turns the call away
pub returns-in_err-admit : goal.returns-in_err-admit
returns-in_err-admit g c =
    let m : Meaning = g.B.Book.meaning c.args.self.now.book in
    let id : ℕ = c.args.self.now.number in
    let t = c.args.self.now.tables in
    let p = err_from_is_err_and c.from_residual.result c.from_residual.ensures.1 in
    rw (p.1, p.2) (record {
      called = turned_away m id (model t) (Call.Settle c.args.n) _ (settle_barred t m id c.args.n _ (sym c.in_err-admit.ensures));
      number = refl;
      book = refl;
      kept = record { rules = refl; tries = refl };
      verdict = sym (settle_barred t m id c.args.n _ (sym c.in_err-admit.ensures));
      refused = λ no_way. refl;
    })

-- the run ends as it ends, for a sound sheet
pub returns : goal.returns
returns g c =
    let m : Meaning = g.B.Book.meaning c.args.self.now.book in
    let id : ℕ = c.args.self.now.number in
    let t = c.args.self.now.tables in
    let free = settle_cleared t m id c.args.n _ (sym c.in_ok-admit.ensures) in
    record {
      called = call_lawful m id (model t) (Call.Settle c.args.n) (model c.settle.new.self) _ (λ sound. does free (c.settle.ensures.settled sound.core_sound));
      number = refl;
      book = refl;
      kept = c.settle.ensures.kept;
      verdict = sym free;
      refused = λ no_way. let z : ◌≡◌ {A = ℕ} 0 1 = cc in let w : ⊥ = omega arith in absurd w;
    }

use Rattle.std.proofs.Common.{◌≡◌, ℕ, ◌+◌, ◌<◌, length, sym, refl, ap, ◌∙◌, subst, arith}
use Rattle.std.proofs.lemmas.Result.{err_from_is_err_and}
use Rattle.windows.specs.Meanings.{Meaning}
use Rattle.law.specs.declared.calls.Answer.{Answer}
use Rattle.law.specs.declared.calls.Call.{Call}
use Rattle.law.specs.Sheets.{Model}
use Rattle.law.specs.Steps.{does, refused}
use Rattle.law.specs.Table.{is_barren}
use Rattle.law.proofs.Verdicts.{open_taken}
use Rattle.tables.specs.Views.{model}
use Rattle.sheet.proofs.Verdicts.{open_barred, open_cleared, held, turned_away, taken}
use Rattle.tables.proofs.Counts.{tries_count}
use Rattle.sheet.proofs.Numbers.{opened_depth}
use Rattle.sheet.proofs.sheet.Sheet.begin.Goals as goal

-- the sheet's state turns the call away
pub returns-in_err-admit : goal.returns-in_err-admit
returns-in_err-admit g c =
    let m : Meaning = g.B.Book.meaning c.args.self.now.book in
    let id : ℕ = c.args.self.now.number in
    let t = c.args.self.now.tables in
    let p = err_from_is_err_and c.from_residual.result c.from_residual.ensures.1 in
    rw (p.1, p.2) (record {
      called = turned_away m id (model t) Call.Open _ (open_barred t m id _ (sym c.in_err-admit.ensures));
      step = refused _ (open_barred t m id _ (sym c.in_err-admit.ensures)) refl refl;
      number = refl;
      book = refl;
      innermost = tt;
      alive = tt;
    })

-- a case of the table does
pub returns-in_err-check_open : goal.returns-in_err-check_open
returns-in_err-check_open g c =
    let m : Meaning = g.B.Book.meaning c.args.self.now.book in
    let id : ℕ = c.args.self.now.number in
    let t = c.args.self.now.tables in
    let p = err_from_is_err_and c.from_residual-in_err-check_open.result c.from_residual-in_err-check_open.ensures.1 in
    rw (p.1, p.2) (record {
      called = turned_away m id (model t) Call.Open _ (open_cleared t m id _ (sym c.in_ok-admit.ensures) ∙ sym c.in_err-check_open.ensures);
      step = refused _ (open_cleared t m id _ (sym c.in_ok-admit.ensures) ∙ sym c.in_err-check_open.ensures) refl refl;
      number = refl;
      book = refl;
      innermost = tt;
      alive = tt;
    })

-- the call is taken
pub returns : goal.returns
returns g c =
    let m : Meaning = g.B.Book.meaning c.args.self.now.book in
    let id : ℕ = c.args.self.now.number in
    let t = c.args.self.now.tables in
    let free = open_cleared t m id _ (sym c.in_ok-admit.ensures) ∙ sym c.in_ok-check_open.ensures in
    let opened = c.begin_try.ensures.begun (subst (λ (n : ℕ). n < 8) (tries_count t) (open_taken m id (model t) free)) in
    let depth : c.try_count.result ≡ length (model t).saved + 1 = c.try_count.ensures.len ∙ opened_depth c.begin_try.new.self t opened in
    record {
      called = taken m id (model t) Call.Open (model c.begin_try.new.self) (Answer.Opened id c.try_count.result) free (opened, ap (Answer.Opened id) depth);
      step = does free (opened, ap (Answer.Opened id) depth);
      number = refl;
      book = refl;
      innermost = record { own = refl; deepest = c.try_count.ensures.saved; real = omega (arith, depth) };
      alive = ap (λ (x : Model). is_barren x.core.state) opened ∙ held t.state _ (sym c.in_ok-admit.ensures);
    }

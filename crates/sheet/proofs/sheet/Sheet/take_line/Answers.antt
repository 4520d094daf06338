use Rattle.std.proofs.Common.{◌≡◌, ℕ, ◌+◌, ◌<◌, length, vec_len, sym, refl, ap, ◌∙◌, subst, ap₂}
use Rattle.std.proofs.lemmas.Result.{err_from_is_err_and}
use Rattle.windows.specs.Meanings.{Meaning}
use Rattle.windows.specs.Spans.{Span}
use Rattle.law.specs.declared.calls.Answer.{Answer}
use Rattle.law.specs.declared.calls.Call.{Call}
use Rattle.law.specs.declared.calls.State.{State}
use Rattle.law.specs.Sheets.{Model, between}
use Rattle.law.specs.Steps.{does, refused, with_core}
use Rattle.law.specs.Table.{first, line_cases}
use Rattle.law.proofs.Verdicts.{line_taken}
use Rattle.tables.specs.Edits.{lined_as}
use Rattle.tables.specs.Views.{core, model}
use Rattle.sheet.proofs.Verdicts.{line_barred, line_cleared, unsettled, turned_away, taken}
use Rattle.tables.proofs.Counts.{lines_count}
use Rattle.sheet.proofs.Numbers.{spanning_is, grown}
use Rattle.sheet.proofs.sheet.Sheet.take_line.Goals as goal

-- the sheet's state turns the call away
pub returns-in_err-next : goal.returns-in_err-next
returns-in_err-next g c =
    let m : Meaning = g.B.Book.meaning c.args.self.now.book in
    let id : ℕ = c.args.self.now.number in
    let t = c.args.self.now.tables in
    let p = err_from_is_err_and c.from_residual.result c.from_residual.ensures.1 in
    rw (p.1, p.2) (record {
      called = turned_away m id (model t) (Call.Line c.args.lo c.args.hi) _ (line_barred t m id c.args.lo c.args.hi _ (sym c.in_err-next.ensures));
      step = refused _ (line_barred t m id c.args.lo c.args.hi _ (sym c.in_err-next.ensures)) refl refl;
      number = refl;
      book = refl;
      tries = refl;
    })

-- a case of the table does
pub returns-in_err-check_line : goal.returns-in_err-check_line
returns-in_err-check_line g c =
    let m : Meaning = g.B.Book.meaning c.args.self.now.book in
    let id : ℕ = c.args.self.now.number in
    let t = c.args.self.now.tables in
    let p = err_from_is_err_and c.from_residual-in_err-check_line.result c.from_residual-in_err-check_line.ensures.1 in
    rw (p.1, p.2) (record {
      called = turned_away m id (model t) (Call.Line c.args.lo c.args.hi) _ (line_cleared t m id c.args.lo c.args.hi _ (sym c.in_ok-next.ensures) ∙ ap (λ (top : ℕ). first (line_cases top (vec_len t.lines.windows) c.args.lo c.args.hi)) (g.met.B.Book.top c.args.self.now.book ∙ sym c.TOP.ensures) ∙ sym c.in_err-check_line.ensures);
      step = refused _ (line_cleared t m id c.args.lo c.args.hi _ (sym c.in_ok-next.ensures) ∙ ap (λ (top : ℕ). first (line_cases top (vec_len t.lines.windows) c.args.lo c.args.hi)) (g.met.B.Book.top c.args.self.now.book ∙ sym c.TOP.ensures) ∙ sym c.in_err-check_line.ensures) refl refl;
      number = refl;
      book = refl;
      tries = refl;
    })

-- the call is taken
pub returns : goal.returns
returns g c =
    let m : Meaning = g.B.Book.meaning c.args.self.now.book in
    let id : ℕ = c.args.self.now.number in
    let t = c.args.self.now.tables in
    let free = line_cleared t m id c.args.lo c.args.hi _ (sym c.in_ok-next.ensures) ∙ ap (λ (top : ℕ). first (line_cases top (vec_len t.lines.windows) c.args.lo c.args.hi)) (g.met.B.Book.top c.args.self.now.book ∙ sym c.TOP.ensures) ∙ sym c.in_ok-check_line.ensures in
    let within = line_taken m id (model t) c.args.lo c.args.hi free in
    let next = unsettled t.state _ (sym c.in_ok-next.ensures) in
    let made = c.spanning.ensures ∙ spanning_is c.args.lo c.args.hi within.ordered in
    let after = c.add_line.ensures.added (subst (λ (n : ℕ). n < 64) (lines_count t) within.room) ∙ ap₂ (λ (s : State) (w : Span). with_core (model t) (lined_as s (core t) w)) next made in
    let number : c.line_count.result ≡ length (model t).core.windows + 1 = c.line_count.ensures.len ∙ grown c.add_line.new.self t State.Unsettled (between c.args.lo c.args.hi) after in
    record {
      called = taken m id (model t) (Call.Line c.args.lo c.args.hi) (model c.add_line.new.self) (Answer.Numbered c.line_count.result) free (after, ap Answer.Numbered number);
      step = does free (after, ap Answer.Numbered number);
      number = refl;
      book = refl;
      tries = ap (λ (x : Model). length x.saved) after;
    }

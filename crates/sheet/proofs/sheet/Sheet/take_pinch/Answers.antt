use Rattle.std.proofs.Common.{◌≡◌, ℕ, List, map, length, vec_items, vec_len, sym, refl, ap, ◌∙◌, ap₂}
use Rattle.std.proofs.lemmas.Result.{err_from_is_err_and}
use Rattle.windows.specs.Meanings.{Meaning}
use Rattle.windows.specs.Spans.{Span}
use Rattle.windows.specs.Windows.{span}
use Rattle.windows.specs.declared.window.Window.{Window}
use Rattle.law.specs.declared.calls.Answer.{Answer}
use Rattle.law.specs.declared.calls.Call.{Call}
use Rattle.law.specs.declared.calls.State.{State}
use Rattle.law.specs.Sheets.{Model, cut, window}
use Rattle.law.specs.Steps.{does, refused, with_core}
use Rattle.law.specs.Table.{first, pinch_cases}
use Rattle.law.proofs.Verdicts.{pinch_taken}
use Rattle.tables.specs.Edits.{pinched_as}
use Rattle.tables.specs.Views.{core, model}
use Rattle.sheet.proofs.Verdicts.{pinch_barred, pinch_cleared, unsettled, turned_away, taken}
use Rattle.sheet.proofs.Numbers.{cut_is}
use Rattle.sheet.proofs.sheet.Sheet.take_pinch.Goals as goal

-- the sheet's state turns the call away
pub returns-in_err-next : goal.returns-in_err-next
returns-in_err-next g c =
    let m : Meaning = g.B.Book.meaning c.args.self.now.book in
    let id : ℕ = c.args.self.now.number in
    let t = c.args.self.now.tables in
    let p = err_from_is_err_and c.from_residual.result c.from_residual.ensures.1 in
    rw (p.1, p.2) (record {
      called = turned_away m id (model t) (Call.Pinch c.args.line c.args.lo c.args.hi) _ (pinch_barred t m id c.args.line c.args.lo c.args.hi _ (sym c.in_err-next.ensures));
      step = refused _ (pinch_barred t m id c.args.line c.args.lo c.args.hi _ (sym c.in_err-next.ensures)) refl refl;
      number = refl;
      book = refl;
      tries = refl;
    })

-- a case of the table does
pub returns-in_err-check_pinch : goal.returns-in_err-check_pinch
returns-in_err-check_pinch g c =
    let m : Meaning = g.B.Book.meaning c.args.self.now.book in
    let id : ℕ = c.args.self.now.number in
    let t = c.args.self.now.tables in
    let p = err_from_is_err_and c.from_residual-in_err-check_pinch.result c.from_residual-in_err-check_pinch.ensures.1 in
    rw (p.1, p.2) (record {
      called = turned_away m id (model t) (Call.Pinch c.args.line c.args.lo c.args.hi) _ (pinch_cleared t m id c.args.line c.args.lo c.args.hi _ (sym c.in_ok-next.ensures) ∙ ap (λ (top : ℕ). first (pinch_cases top (vec_len t.lines.windows) (window (map span (vec_items t.lines.windows)) c.args.line) c.args.line c.args.lo c.args.hi)) (g.met.B.Book.top c.args.self.now.book ∙ sym c.TOP.ensures) ∙ sym c.in_err-check_pinch.ensures);
      step = refused _ (pinch_cleared t m id c.args.line c.args.lo c.args.hi _ (sym c.in_ok-next.ensures) ∙ ap (λ (top : ℕ). first (pinch_cases top (vec_len t.lines.windows) (window (map span (vec_items t.lines.windows)) c.args.line) c.args.line c.args.lo c.args.hi)) (g.met.B.Book.top c.args.self.now.book ∙ sym c.TOP.ensures) ∙ sym c.in_err-check_pinch.ensures) refl refl;
      number = refl;
      book = refl;
      tries = refl;
    })

-- the call is taken
pub returns : goal.returns
returns g c =
    let m : Meaning = g.B.Book.meaning c.args.self.now.book in
    let id : ℕ = c.args.self.now.number in
    let t = c.args.self.now.tables in
    let free = pinch_cleared t m id c.args.line c.args.lo c.args.hi _ (sym c.in_ok-next.ensures) ∙ ap (λ (top : ℕ). first (pinch_cases top (vec_len t.lines.windows) (window (map span (vec_items t.lines.windows)) c.args.line) c.args.line c.args.lo c.args.hi)) (g.met.B.Book.top c.args.self.now.book ∙ sym c.TOP.ensures) ∙ sym c.in_ok-check_pinch.ensures in
    let within = pinch_taken m id (model t) c.args.line c.args.lo c.args.hi free in
    let next = unsettled t.state _ (sym c.in_ok-next.ensures) in
    let made : span c.cut_down.result ≡ cut (window (map span (vec_items t.lines.windows)) c.args.line) c.args.lo c.args.hi = c.cut_down.ensures ∙ cut_is (window (map span (vec_items t.lines.windows)) c.args.line) (span c.window_at-present.result) c.args.lo c.args.hi (c.window_at-present.ensures ∙ ap (λ (xs : List Window). window (map span xs) c.args.line) c.windows.ensures) within.leaves in
    let after = c.set_window.ensures ∙ ap₂ (λ (s : State) (w : Span). with_core (model t) (pinched_as s (core t) c.args.line w)) next made in
    record {
      called = taken m id (model t) (Call.Pinch c.args.line c.args.lo c.args.hi) (model c.set_window.new.self) Answer.Pinched free (after, refl);
      step = does free (after, refl);
      number = refl;
      book = refl;
      tries = ap (λ (x : Model). length x.saved) after;
    }

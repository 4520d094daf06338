use Rattle.std.proofs.Common.{◌≡◌, ℕ, ◌+◌, ◌<◌, length, vec_len, sym, refl, ap, ◌∙◌, subst}
use Rattle.std.proofs.lemmas.Result.{err_from_is_err_and}
use Rattle.windows.specs.Meanings.{Meaning}
use Rattle.law.specs.declared.calls.Answer.{Answer}
use Rattle.law.specs.declared.calls.Call.{Call}
use Rattle.law.specs.declared.calls.State.{State}
use Rattle.law.specs.Sheets.{Model}
use Rattle.law.specs.Steps.{does, refused, with_core}
use Rattle.law.specs.Table.{first, rule_cases}
use Rattle.law.proofs.Verdicts.{rule_taken}
use Rattle.tables.specs.Edits.{ruled_as}
use Rattle.tables.specs.Views.{core, model}
use Rattle.sheet.proofs.Verdicts.{rule_barred, rule_cleared, unsettled, turned_away, taken}
use Rattle.tables.proofs.Counts.{rules_count}
use Rattle.sheet.proofs.Numbers.{ruled}
use Rattle.sheet.proofs.sheet.Sheet.take_rule.Goals as goal

-- the sheet's state turns the call away
pub returns-in_err-next : goal.returns-in_err-next
returns-in_err-next g c =
    let m : Meaning = g.B.Book.meaning c.args.self.now.book in
    let id : ℕ = c.args.self.now.number in
    let t = c.args.self.now.tables in
    let p = err_from_is_err_and c.from_residual.result c.from_residual.ensures.1 in
    rw (p.1, p.2) (record {
      called = turned_away m id (model t) (Call.Rule c.args.rule) _ (rule_barred t m id c.args.rule _ (sym c.in_err-next.ensures));
      step = refused _ (rule_barred t m id c.args.rule _ (sym c.in_err-next.ensures)) refl refl;
      number = refl;
      book = refl;
      tries = refl;
    })

-- a case of the table does
pub returns-in_err-check_rule : goal.returns-in_err-check_rule
returns-in_err-check_rule g c =
    let m : Meaning = g.B.Book.meaning c.args.self.now.book in
    let id : ℕ = c.args.self.now.number in
    let t = c.args.self.now.tables in
    let counted = ap (λ (n : ℕ). first (rule_cases n (vec_len t.lines.windows) (vec_len t.rules.items) c.args.rule)) (g.met.B.Book.same c.args.self.now.book c.args.rule.kind) in
    let p = err_from_is_err_and c.from_residual-in_err-check_rule.result c.from_residual-in_err-check_rule.ensures.1 in
    rw (p.1, p.2) (record {
      called = turned_away m id (model t) (Call.Rule c.args.rule) _ (rule_cleared t m id c.args.rule _ (sym c.in_ok-next.ensures) ∙ (counted ∙ sym c.in_err-check_rule.ensures));
      step = refused _ (rule_cleared t m id c.args.rule _ (sym c.in_ok-next.ensures) ∙ (counted ∙ sym c.in_err-check_rule.ensures)) refl refl;
      number = refl;
      book = refl;
      tries = refl;
    })

-- the call is taken
pub returns : goal.returns
returns g c =
    let m : Meaning = g.B.Book.meaning c.args.self.now.book in
    let id : ℕ = c.args.self.now.number in
    let t = c.args.self.now.tables in
    let counted = ap (λ (n : ℕ). first (rule_cases n (vec_len t.lines.windows) (vec_len t.rules.items) c.args.rule)) (g.met.B.Book.same c.args.self.now.book c.args.rule.kind) in
    let free = rule_cleared t m id c.args.rule _ (sym c.in_ok-next.ensures) ∙ (counted ∙ sym c.in_ok-check_rule.ensures) in
    let next = unsettled t.state _ (sym c.in_ok-next.ensures) in
    let after = c.add_rule.ensures.added (subst (λ (n : ℕ). n < 128) (rules_count t) (rule_taken m id (model t) c.args.rule free).room) ∙ ap (λ (s : State). with_core (model t) (ruled_as s (core t) c.args.rule)) next in
    let number : c.rule_count.result ≡ length (model t).core.rules + 1 = c.rule_count.ensures ∙ ruled c.add_rule.new.self t State.Unsettled c.args.rule after in
    record {
      called = taken m id (model t) (Call.Rule c.args.rule) (model c.add_rule.new.self) (Answer.Numbered c.rule_count.result) free (after, ap Answer.Numbered number);
      step = does free (after, ap Answer.Numbered number);
      number = refl;
      book = refl;
      tries = ap (λ (x : Model). length x.saved) after;
    }

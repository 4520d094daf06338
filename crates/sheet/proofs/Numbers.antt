-- Counts and windows after a call. Assumes nothing.
use Rattle.std.proofs.Common.{◌≡◌, ℕ, ◌+◌, ◌≤◌, min, max, Bool, true, false, cond, not, ◌||◌, eqb, [], ◌∷◌, length, Some, None, vec_len, sym, ap, ◌∙◌, arith, length-append}
use Rattle.std.proofs.lemmas.Bool.{eq-eqb, ne_eqb}
use Rattle.windows.specs.Spans.{Span}
use Rattle.windows.specs.Windows.{spanning}
use Rattle.law.specs.declared.calls.Refusal.{Refusal}
use Rattle.law.specs.declared.calls.Rule.{Rule}
use Rattle.law.specs.declared.calls.State.{State}
use Rattle.law.specs.Sheets.{Model, between, cut}
use Rattle.law.specs.Steps.{with_core}
use Rattle.law.specs.Table.{first, ticket_cases, wrong_ticket}
use Rattle.tables.specs.declared.tables.Tables.{Tables}
use Rattle.tables.specs.Edits.{lined_as, opened_as, ruled_as}
use Rattle.sheet.specs.Tickets.{Innermost}
use Rattle.tables.specs.Views.{core, model}
use Rattle.tables.proofs.Counts.{lines_count, rules_count, tries_count}

-- Two codes in order span the window between them.
pub spanning_is : (lo hi : ℕ) → lo ≤ hi → spanning lo hi ≡ between lo hi
spanning_is lo hi h =
    let low : min lo hi ≡ lo = omega arith in
    let high : max lo hi ≡ hi = omega arith in
    λ i. record { lo = low i; hi = high i }

-- One more line.
pub grown : (new t : Tables) (s : State) (w : Span) → model new ≡ with_core (model t) (lined_as s (core t) w) → vec_len new.lines.windows ≡ length (model t).core.windows + 1
grown new t s w e = sym (lines_count new) ∙ ap (λ (x : Model). length x.core.windows) e ∙ length-append (model t).core.windows (w ∷ [])

-- One more rule.
pub ruled : (new t : Tables) (s : State) (r : Rule) → model new ≡ with_core (model t) (ruled_as s (core t) r) → vec_len new.rules.items ≡ length (model t).core.rules + 1
ruled new t s r e = sym (rules_count new) ∙ ap (λ (x : Model). length x.core.rules) e ∙ length-append (model t).core.rules (r ∷ [])

-- One more try.
pub opened_depth : (new t : Tables) → model new ≡ opened_as (model t) → vec_len new.tries ≡ length (model t).saved + 1
opened_depth new t e =
    let more : length ((model t).core ∷ (model t).saved) ≡ length (model t).saved + 1 = omega arith in
    sym (tries_count new) ∙ ap (λ (x : Model). length x.saved) e ∙ more

-- The window of a line, cut: where it has a code left, its ends span it.
pub cut_is : (w : Span) (v : Span) (lo hi : ℕ) → v ≡ w → (cut w lo hi).lo ≤ (cut w lo hi).hi → spanning (max v.lo lo) (min v.hi hi) ≡ cut w lo hi
cut_is w v lo hi e h =
    ap (λ (x : Span). spanning (max x.lo lo) (min x.hi hi)) e ∙ spanning_is (max w.lo lo) (min w.hi hi) h

-- The innermost ticket is not turned away by its own case.
pub never_turned : (t : Tables) (id number depth : ℕ) (why : Refusal) → Innermost id (model t) number depth → Some why ≡ first (ticket_cases id (vec_len t.tries) number depth) → ⊥
never_turned t id number depth why inner e =
    let n : depth ≡ vec_len t.tries = inner.deepest ∙ tries_count t in
    let own : eqb number id ≡ true = eq-eqb number id inner.own in
    let deep : eqb depth (vec_len t.tries) ≡ true = eq-eqb depth (vec_len t.tries) n in
    let real : eqb depth 0 ≡ false = ne_eqb depth 0 (λ z. omega (arith, inner.real)) in
    let right : wrong_ticket id (vec_len t.tries) number depth ≡ false =
    ap (λ (b : Bool). not b || (not (eqb depth (vec_len t.tries)) || eqb depth 0)) own
    ∙ ap (λ (b : Bool). not b || eqb depth 0) deep ∙ real in
    let passes : first (ticket_cases id (vec_len t.tries) number depth) ≡ None = ap (λ (b : Bool). cond b (Some Refusal.WrongTicket) None) right in
    let both : Some why ≡ None = e ∙ passes in
    let z : ◌≡◌ {A = ℕ} 0 1 = cc in
    omega arith

use Rattle.std.proofs.Common.{◌≡◌, ℕ, Some, Ok, Bool, true, false, ◌&&◌, eqb, [], ◌∷◌, List, map, get_or, take, vec_items, refl, ap, ◌∙◌, subst, arith, sym}
use Rattle.std.proofs.lemmas.Bool.{and_from, eq-eqb}
use Rattle.boxes.specs.declared.triple.Triple.{Triple}
use Rattle.windows.specs.Spans.{Span, nowhere}
use Rattle.windows.specs.Windows.{span}
use Rattle.windows.specs.declared.window.Window.{Window}
use Rattle.books.specs.Narrowings.{Answers, read, spans}
use Rattle.law.specs.Sheets.{put}
use Rattle.runs.proofs.Attempts.{not_unfit, narrows_is}
use Rattle.runs.proofs.run.try_rule.Goals as goal

-- the test of two windows
abbrev alike : Window → Window → Bool
alike v w = eqb v.lo w.lo && eqb v.hi w.hi

-- windows with the same span pass it
alike_is : (v w : Window) → span v ≡ span w → alike v w ≡ true
alike_is v w e = and_from _ _ (eq-eqb v.lo w.lo (ap (λ (s : Span). s.lo) e)) (eq-eqb v.hi w.hi (ap (λ (s : Span). s.hi) e))

-- three windows that do not pass it have not the same spans
apart : (t u : Triple Window) → false ≡ (alike t.a u.a && (alike t.b u.b && alike t.c u.c)) → spans t ≡ spans u → ⊥
apart t u other e =
    let same = and_from _ _ (alike_is t.a u.a (ap (λ (l : List Span). get_or l 0 nowhere) e))
    (and_from _ _ (alike_is t.b u.b (ap (λ (l : List Span). get_or l 1 nowhere) e)) (alike_is t.c u.c (ap (λ (l : List Span). get_or l 2 nowhere) e))) in
    let z : false ≡ true = other ∙ same in
    let w : ◌≡◌ {A = ℕ} 0 1 = cc in
    omega arith

-- a rule that fits is never unfit
pub returns-in-Err-clause-tried : goal.returns-in-Err-clause-tried
returns-in-Err-clause-tried g c = λ f. absurd (not_unfit (g.B.Book.meaning c.args.book.now) (map span (vec_items c.args.lines.now.windows)) c.args.rule c.windows_of-before.result c.windows_of-before.ensures c.in-Err.field-0 f c.in-Err.ensures)

-- something moved
pub returns-then-room-clause-tried : goal.returns-then-room-clause-tried
returns-then-room-clause-tried g c = λ f. let m = g.B.Book.meaning c.args.book.now in let closed : Answers m c.args.rule.kind (spans c.windows_of-before.result) (Ok (Some c.in-Ok-Some.after)) = subst (λ o. Answers m c.args.rule.kind (spans c.windows_of-before.result) (Ok o)) c.in-Ok-Some.field-0-is c.in-Ok-Some.ensures in (
  _,
  narrows_is m (map span (vec_items c.args.lines.now.windows)) c.args.rule c.windows_of-before.result c.windows_of-before.ensures c.in-Ok-Some.after closed.1 (apart c.in-Ok-Some.after c.windows_of-before.result c.if-eq.ensures),
  c.put_back.ensures.put ∙ ap (λ (n : ℕ). put (take n (c.args.rule.a ∷ c.args.rule.b ∷ c.args.rule.c ∷ [])) (read n (spans c.in-Ok-Some.after)) (map span (vec_items c.args.lines.now.windows))) (c.lines.ensures ∙ sym (g.met.B.Book.same c.args.book.now c.args.rule.kind)),
  c.if-room.true,
)

-- something would, and there is no room
pub returns-else-room-clause-tried : goal.returns-else-room-clause-tried
returns-else-room-clause-tried g c = λ f. let m = g.B.Book.meaning c.args.book.now in let closed : Answers m c.args.rule.kind (spans c.windows_of-before.result) (Ok (Some c.in-Ok-Some.after)) = subst (λ o. Answers m c.args.rule.kind (spans c.windows_of-before.result) (Ok o)) c.in-Ok-Some.field-0-is c.in-Ok-Some.ensures in (
  _,
  narrows_is m (map span (vec_items c.args.lines.now.windows)) c.args.rule c.windows_of-before.result c.windows_of-before.ensures c.in-Ok-Some.after closed.1 (apart c.in-Ok-Some.after c.windows_of-before.result c.if-eq.ensures),
  refl,
  c.if-room.false,
)

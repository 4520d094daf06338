use Rattle.std.proofs.Common.{◌≡◌, ℕ, ◌+◌, ◌-◌, ◌<◌, ◌≤◌, true, false, List, min, map, length, get_or, vec_items, sym, refl, ap, ◌∙◌, subst, arith, ltb-true, inl, inr}
use Rattle.std.proofs.lemmas.Bool.{cases_lt}
use lib.ListN.{length-map}
use Rattle.windows.specs.Meanings.{Meaning}
use Rattle.windows.specs.Windows.{span}
use Rattle.law.specs.declared.calls.Rule.{Rule}
use Rattle.runs.specs.RuleSets.{has}
use Rattle.runs.specs.Wakes.{no_rule}
use Rattle.runs.proofs.Turns.{At, at_first, at_awake, ends_none, ends_full, at_still, at_narrowed, ends_still, ends_moved}
use Rattle.runs.proofs.run.play_round.Goals as goal
use Rattle.runs.proofs.run.play_round.Goals.{in-Still, in-Narrowed}

-- the round begins with the first rule that is awake
pub loop-rule-init : goal.loop-rule-init
loop-rule-init g c =
    let m : Meaning = g.B.Book.meaning c.args.book.now in
    record {
      upper = omega arith;
      lower = omega arith;
      at = λ calm.
          at_awake m _ _ _ _ (min c.next-next.result (length (vec_items c.args.rules.now.items))) 0 _ _ _ _ (omega arith) (omega arith)
          (λ j from to. c.next-next.ensures.passed j from (omega arith)) (at_first m _ _ _ _ _ calm);
    }

-- the rule has no choice
pub returns-in-NoChoice-clause-rounded : goal.returns-in-NoChoice-clause-rounded
returns-in-NoChoice-clause-rounded g c = λ calm.
    let m : Meaning = g.B.Book.meaning c.args.book.now in
    let rules : List Rule = vec_items c.args.rules.now.items in
    let look = c.in-Some.ensures.lookup in
    let here : c.loop-rule.next < length rules = subst (λ (rs : List Rule). c.loop-rule.next < length rs) c.deref.ensures.value look.3.0 in
    let it : c.in-Some.rule.now ≡ get_or rules c.loop-rule.next no_rule = look.3.1 no_rule ∙ ap (λ (rs : List Rule). get_or rs c.loop-rule.next no_rule) c.deref.ensures.value in
    let few : length (map span (vec_items c.loop-rule.lines.windows)) ≤ 64 = simp length-map (omega arith) in
    let At_place : ℕ → Type 0 = λ i. At m rules c.args.n c.args.start (map span (vec_items c.args.lines.now.windows)) i c.loop-rule.count (map span (vec_items c.loop-rule.lines.windows)) c.loop-rule.agenda in
    let at : At_place c.loop-rule.next = subst At_place (omega arith) (c.loop-rule.invariant.at calm) in
    ends_none m _ _ _ _ _ _ _ _ here at _ _ few c.try_rule.ensures.woken (rw it at c.in-NoChoice.ensures.tried)

-- a narrowing, and no room
pub returns-in-LeftUndone-clause-rounded : goal.returns-in-LeftUndone-clause-rounded
returns-in-LeftUndone-clause-rounded g c = λ calm.
    let m : Meaning = g.B.Book.meaning c.args.book.now in
    let rules : List Rule = vec_items c.args.rules.now.items in
    let look = c.in-Some.ensures.lookup in
    let here : c.loop-rule.next < length rules = subst (λ (rs : List Rule). c.loop-rule.next < length rs) c.deref.ensures.value look.3.0 in
    let it : c.in-Some.rule.now ≡ get_or rules c.loop-rule.next no_rule = look.3.1 no_rule ∙ ap (λ (rs : List Rule). get_or rs c.loop-rule.next no_rule) c.deref.ensures.value in
    let few : length (map span (vec_items c.loop-rule.lines.windows)) ≤ 64 = simp length-map (omega arith) in
    let At_place : ℕ → Type 0 = λ i. At m rules c.args.n c.args.start (map span (vec_items c.args.lines.now.windows)) i c.loop-rule.count (map span (vec_items c.loop-rule.lines.windows)) c.loop-rule.agenda in
    let at : At_place c.loop-rule.next = subst At_place (omega arith) (c.loop-rule.invariant.at calm) in
    ends_full m _ _ _ _ _ _ _ _ here at _ _ few c.try_rule.ensures.woken (rw it at c.in-LeftUndone.ensures.tried)

-- on to the next rule that is awake
pub loop-rule-preserved : goal.loop-rule-preserved
loop-rule-preserved g c =
    let m : Meaning = g.B.Book.meaning c.args.book.now in
    let rules : List Rule = vec_items c.args.rules.now.items in
    let look = c.in-Some.ensures.lookup in
    let here : c.loop-rule.next < length rules = subst (λ (rs : List Rule). c.loop-rule.next < length rs) c.deref.ensures.value look.3.0 in
    let it : c.in-Some.rule.now ≡ get_or rules c.loop-rule.next no_rule = look.3.1 no_rule ∙ ap (λ (rs : List Rule). get_or rs c.loop-rule.next no_rule) c.deref.ensures.value in
    let few : length (map span (vec_items c.loop-rule.lines.windows)) ≤ 64 = simp length-map (omega arith) in
    let At_place : ℕ → Type 0 = λ i. At m rules c.args.n c.args.start (map span (vec_items c.args.lines.now.windows)) i c.loop-rule.count (map span (vec_items c.loop-rule.lines.windows)) c.loop-rule.agenda in
    let next : ℕ = c.next-next-in-Some.result in
    let beyond : c.loop-rule.next + 1 ≤ next = elim (cases_lt c.loop-rule.next next) [
      | inl more ↦ omega arith
      | inr less ↦
          let same : next ≡ c.loop-rule.next = omega (arith, c.next-next-in-Some.ensures.onward) in
          let still : has c.remove.new.self next ≡ true = c.next-next-in-Some.ensures.here (omega arith) in
          let gone : has c.remove.new.self next ≡ false = ap (has c.remove.new.self) same ∙ c.remove.ensures.here in
          absurd (cc)
    ] in
    let to : ℕ = min next (length rules) in
    let At_next : ℕ → Type 0 = λ k. At m rules c.args.n c.args.start (map span (vec_items c.args.lines.now.windows)) (c.loop-rule.next + 1) k (map span (vec_items c.try_rule.new.lines.windows)) (record { naming = c.try_rule.new.agenda.naming; awake = c.remove.new.self }) in
    let awake = λ (k : ℕ) (at : At_next k).
    at_awake m rules c.args.n c.args.start _ (to - (c.loop-rule.next + 1)) (c.loop-rule.next + 1) to k _ _ (omega arith) (omega arith)
    (λ j from less. c.next-next-in-Some.ensures.passed j (omega arith) (omega arith)) at in
    elim c.match-try_rule.branch [
      | in-Still w ↦ record {
        upper = omega (arith, w.count-is);
        lower = omega (arith, w.count-is);
        at = λ calm. awake _ (subst At_next (sym w.count-is)
            (at_still m _ _ _ _ _ _ _ _ here (subst At_place (omega arith) (c.loop-rule.invariant.at calm)) _ _ few c.try_rule.ensures.woken _ c.remove.ensures.others (rw it at w.in-Still.ensures.tried)));
      }
      | in-Narrowed w ↦
          (let room : c.loop-rule.count < c.args.n = ltb-true _ _ (w.in-Narrowed.ensures.room refl) in record {
            upper = omega (arith, w.count-is);
            lower = omega (arith, w.count-is);
            at = λ calm. awake _ (subst At_next (sym w.count-is)
                (at_narrowed m _ _ _ _ _ _ _ _ here (subst At_place (omega arith) (c.loop-rule.invariant.at calm)) _ _ few c.try_rule.ensures.woken _ c.remove.ensures.others c.loop-rule.invariant.lower (rw it at w.in-Narrowed.ensures.tried)));
          })
    ]

-- no rule moved
pub returns-then-count-start-clause-rounded : goal.returns-then-count-start-clause-rounded
returns-then-count-start-clause-rounded g c = λ calm.
    let m : Meaning = g.B.Book.meaning c.args.book.now in
    let over : length (vec_items c.args.rules.now.items) ≤ c.loop-rule.next = subst (λ (rs : List Rule). length rs ≤ c.loop-rule.next) c.deref.ensures.value c.in_default.ensures.lookup.3 in
    ends_still m _ _ _ _ _ _ _ _ (omega arith) (c.loop-rule.invariant.at calm) (omega arith)

-- some did
pub returns-else-count-start-clause-rounded : goal.returns-else-count-start-clause-rounded
returns-else-count-start-clause-rounded g c = λ calm.
    let m : Meaning = g.B.Book.meaning c.args.book.now in
    let over : length (vec_items c.args.rules.now.items) ≤ c.loop-rule.next = subst (λ (rs : List Rule). length rs ≤ c.loop-rule.next) c.deref.ensures.value c.in_default.ensures.lookup.3 in
    ends_moved m _ _ _ _ _ _ _ _ (omega arith) (c.loop-rule.invariant.at calm) (omega arith)

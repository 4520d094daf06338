-- Rules that wake, and rules that stay still.
--   asleep   a rule that is not awake
-- Assumes what each lemma states.
use Rattle.std.proofs.Common.{◌≡◌, ℕ, ◌-◌, ◌<◌, ◌≤◌, true, false, ◌||◌, eqb, List, [], ◌∷◌, ◌++◌, map, length, get_or, take, drop, set, sym, refl, ◌∙◌, subst, ap₂, inl, inr, arith, length-set, take-append-drop}
use lib.ListN.{length-map}
use borrow.Author.Tests.{eqb-false}
use Rattle.std.proofs.lemmas.List.{get_or-set_same, get_or-set_other}
use Rattle.std.proofs.lemmas.Bool.{cases_eq, cases_Bool, both_ways, or_left, or_right, or_parts}
use Rattle.windows.specs.Spans.{Span, Every, nowhere}
use Rattle.windows.specs.Choices.{Choice, Supported, Smallest}
use Rattle.windows.specs.Meanings.{Meaning}
use Rattle.windows.proofs.Spans.{every_at, every_left}
use Rattle.law.specs.declared.calls.Rule.{Rule}
use Rattle.law.specs.Sheets.{window, named, windows_of, put}
use Rattle.law.specs.Runs.{Still, Narrows}
use Rattle.law.specs.Sound.{IsLine, FitRule}
use Rattle.law.specs.Table.{repeats, some_of}
use Rattle.runs.specs.declared.rule_set.RuleSet.{RuleSet}
use Rattle.runs.specs.declared.wake.Agenda.{Agenda}
use Rattle.runs.specs.Rounds.{Ready}
use Rattle.runs.specs.RuleSets.{has}
use Rattle.runs.specs.Wakes.{Calm, Indexed, Listed, Woken, no_rule, rules_of}

-- where nothing moves no rule has to wake
pub woken_same : (a : Agenda) (ws : List Span) → Woken a ws a ws
woken_same a ws = record { naming = refl; kept = λ j h. h; woken = λ p l. inl refl }

-- the window of one line is put, and the rules that name the line wake
pub woken_put :
    (a b : Agenda) (ws : List Span) (p : ℕ) (w : Span) → b.naming ≡ a.naming →
    ((j : ℕ) → has b.awake j ≡ (has a.awake j || has (rules_of a.naming p) j)) → Woken a ws b (set ws p w)
woken_put a b ws p w e h = record {
  naming = e;
  kept = λ j l. h j ∙ or_left (has a.awake j) (has (rules_of a.naming p) j) l;
  woken = λ q less.
      elim (cases_eq q p) [
        | inl e ↦ inr (λ j l. h j ∙ or_right (has a.awake j) (has (rules_of a.naming p) j) (subst (λ (k : ℕ). has (rules_of a.naming k) j ≡ true) e l))
        | inr f ↦ inl (get_or-set_other ws p q w nowhere f)
      ];
}

-- the smallest box of a smallest box is itself
smallest_again : (R : List ℕ → Type 0) (ws vs : List Span) → Smallest R ws vs → Smallest R vs vs
smallest_again R ws vs s =
    let within : (xs : List ℕ) → Choice R ws xs → Choice R vs xs = λ xs c. record { each = s.holds xs c; related = c.related } in
    let again : (i x : ℕ) → Supported R ws i x → Supported R vs i x = λ i x u. record { codes = u.codes; choice = within u.codes u.choice; here = u.here } in
    record {
      same = refl;
      codes = s.codes;
      some = within s.codes s.some;
      holds = λ xs c. c.each;
      ends = λ i h. record { lower = again i (get_or vs i nowhere).lo (s.ends i h).lower; upper = again i (get_or vs i nowhere).hi (s.ends i h).upper };
    }

-- windows put to other lines leave the window of line k
put_other : (ks : List ℕ) (us ws : List Span) (k : ℕ) → Every (λ l. k - 1 ≡ l - 1 → ⊥) ks → window (put ks us ws) k ≡ window ws k
put_other [] us ws k other = refl
put_other (l ∷ ks) [] ws k other = refl
put_other (l ∷ ks) (u ∷ us) ws k other =
    put_other ks us (set ws (l - 1) u) k other.1 ∙ get_or-set_other ws (l - 1) (k - 1) u nowhere other.0

-- a line that is not among others has another place
apart : (n k : ℕ) (ks : List ℕ) → IsLine n k → Every (IsLine n) ks → some_of (eqb k) ks ≡ false → Every (λ l. k - 1 ≡ l - 1 → ⊥) ks
apart n k [] here there h = tt
apart n k (l ∷ ks) here there h =
    let parts = or_parts (eqb k l) (some_of (eqb k) ks) h in (
      λ e. let same : k ≡ l = omega (arith, here.above_zero, there.0.above_zero) in eqb-false k l parts.0 same,
      apart n k ks here there.1 parts.1,
    )

-- windows put to lines that differ are the windows of these lines
put_windows :
    (ks : List ℕ) (us ws : List Span) → length us ≡ length ks → Every (IsLine (length ws)) ks → repeats ks ≡ false →
    map (window (put ks us ws)) ks ≡ us
put_windows [] [] ws e there h = refl
put_windows [] (u ∷ us) ws e there h = let z : ⊥ = omega arith in absurd z
put_windows (k ∷ ks) [] ws e there h = let z : ⊥ = omega arith in absurd z
put_windows (k ∷ ks) (u ∷ us) ws e there h =
    let parts = or_parts (some_of (eqb k) ks) (repeats ks) h in
    let l : k - 1 < length ws = omega (arith, there.0.above_zero, there.0.there) in
    ap₂ ◌∷◌
    (put_other ks us (set ws (k - 1) u) k (apart (length ws) k ks there.0 there.1 parts.0) ∙ get_or-set_same ws (k - 1) u nowhere l)
    (put_windows ks us (set ws (k - 1) u) (omega arith)
    (subst (λ (n : ℕ). Every (IsLine n) ks) (sym (length-set ws (k - 1) u)) there.1) parts.1)

-- a rule that narrowed is still on the windows that it left
pub narrowed_still : (m : Meaning) (ws : List Span) (r : Rule) (us : List Span) → FitRule m (length ws) r → Narrows m ws r us → Still m (put (named m r) us ws) r
narrowed_still m ws r us fit s =
    let left : windows_of m (put (named m r) us ws) r ≡ us =
    put_windows (named m r) us ws (s.smallest.same ∙ length-map (named m r) (window ws)) fit.lines_there fit.different in
    subst (λ (vs : List Span). Smallest (m.related r.kind) vs vs) (sym left) (smallest_again (m.related r.kind) (windows_of m ws r) us s.smallest)

-- a still rule stays so while the windows of its lines are as they were
still_kept : (m : Meaning) (ws vs : List Span) (r : Rule) → windows_of m vs r ≡ windows_of m ws r → Still m ws r → Still m vs r
still_kept m ws vs r e s = subst (λ (us : List Span). Smallest (m.related r.kind) us us) (sym e) s

module _ (a b : Agenda) (ws vs : List Span) (few : length ws ≤ 64) (w : Woken a ws b vs) where
  -- the lines of a rule that is asleep have the windows that they had
  unmoved : (j : ℕ) → has b.awake j ≡ false → (ks : List ℕ) → Every (Listed a.naming j) ks → Every (IsLine (length ws)) ks → map (window vs) ks ≡ map (window ws) ks
  unmoved j asleep [] listed there = refl
  unmoved j asleep (k ∷ ks) listed there =
      ap₂ ◌∷◌
      (elim (w.woken (k - 1) (omega (arith, there.0.there))) [
        | inl e ↦ e
        | inr f ↦ absurd (both_ways (has b.awake j) asleep (f j (listed.0 there.0.above_zero (omega (arith, there.0.there)))))
      ])
      (unmoved j asleep ks listed.1 there.1)

  -- a rule that is asleep after the move was so before
  slept : (j : ℕ) → has b.awake j ≡ false → has a.awake j ≡ false
  slept j asleep = elim (cases_Bool (has a.awake j)) [ inl h ↦ absurd (both_ways (has b.awake j) asleep (w.kept j h)) | inr h ↦ h ]

  -- so that it is still
  pub quiet_moved :
      (m : Meaning) (rules : List Rule) → Calm m rules a ws →
      (j : ℕ) → j < length rules → has b.awake j ≡ false → Still m vs (get_or rules j no_rule)
  quiet_moved m rules calm j l asleep =
      let r = get_or rules j no_rule in
      let fit : FitRule m (length ws) (get_or rules j no_rule) = every_at (FitRule m (length ws)) rules j no_rule calm.ready.rules_fit l in
      let all : Every (Listed a.naming j) (take (m.arity r.kind) (r.a ∷ r.b ∷ r.c ∷ []) ++ drop (m.arity r.kind) (r.a ∷ r.b ∷ r.c ∷ [])) =
      subst (Every (Listed a.naming j)) (sym (take-append-drop (m.arity r.kind) (r.a ∷ r.b ∷ r.c ∷ []))) (calm.listed j l) in
      still_kept m ws vs r
      (unmoved j asleep (named m r) (every_left (Listed a.naming j) (named m r) (drop (m.arity r.kind) (r.a ∷ r.b ∷ r.c ∷ [])) all) fit.lines_there)
      (calm.quiet j l (slept j asleep))

  -- the rules are named as they were
  pub listed_moved : (rules : List Rule) → Indexed rules a.naming → Indexed rules b.naming
  listed_moved rules h = subst (Indexed rules) (sym w.naming) h

  -- where nothing moved nothing changes
  pub calm_kept : (m : Meaning) (rules : List Rule) → Calm m rules a ws → vs ≡ ws → Calm m rules b vs
  calm_kept m rules calm e = record {
    ready = subst (Ready m rules) (sym e) calm.ready;
    listed = listed_moved rules calm.listed;
    quiet = quiet_moved m rules calm;
  }

-- a rule that is still goes to sleep
pub quiet_less :
    (m : Meaning) (rules : List Rule) (vs : List Span) (i : ℕ) (t u : RuleSet) →
    ((j : ℕ) → j < length rules → has t j ≡ false → Still m vs (get_or rules j no_rule)) → Still m vs (get_or rules i no_rule) →
    ((j : ℕ) → (j ≡ i → ⊥) → has u j ≡ has t j) →
    (j : ℕ) → j < length rules → has u j ≡ false → Still m vs (get_or rules j no_rule)
quiet_less m rules vs i t u quiet s same j l asleep =
    elim (cases_eq j i) [
      | inl e ↦ subst (λ (k : ℕ). Still m vs (get_or rules k no_rule)) (sym e) s
      | inr f ↦ quiet j l (sym (same j f) ∙ asleep)
    ]

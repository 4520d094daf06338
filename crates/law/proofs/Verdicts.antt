-- What an accepted call tells: none of its cases applied. And: a call does one thing.
-- Assumes nothing.
use Rattle.std.proofs.Common.{◌≡◌, ℕ, ◌<◌, ◌≤◌, Bool, true, false, cond, not, ◌&&◌, ◌||◌, eqb, ltb, leb, List, [], ◌∷◌, length, Some, None, Option, sym, refl, ap, ◌∙◌, arith}
use Rattle.std.proofs.lemmas.Bool.{or_parts, ltb-false, leb-false, eqb-true, eqb-false, eq-eqb, not-false}
use Rattle.windows.specs.Spans.{Every}
use Rattle.windows.specs.Meanings.{Meaning}
use Rattle.windows.proofs.Spans.{every_map}
use Rattle.law.specs.declared.calls.Rule.{Rule}
use Rattle.law.specs.declared.calls.Call.{Call}
use Rattle.law.specs.declared.calls.Answer.{Answer}
use Rattle.law.specs.declared.calls.Refusal.{Refusal}
use Rattle.law.specs.declared.calls.Refusal.TheVariants.{Ends, NoLine, Twice, NoKind, Full, Empties, IsBarren, TooManyTries, WrongTicket}
use Rattle.law.specs.Sheets.{Model, window, named, cut, most_lines, most_rules, most_tries}
use Rattle.law.specs.declared.table.Check.{Check}
use Rattle.law.specs.Table.{check, first, some_of, repeats, is_barren, bad_ends, no_line, misnames, is_empty, wrong_ticket, checks, verdict}
use Rattle.law.specs.Steps.{settled, told, with_core, Settles, Does, refused, does, Deterministic}
use Rattle.law.specs.Sound.{IsLine, FitRule}
use Rattle.law.proofs.Runs.{unique_ending}

-- No case applies: not this one, and none of the rest.
first_by : (b : Bool) (why : Refusal) (rest : Option Refusal) → cond b (Some why) rest ≡ None → (b ≡ false) × (rest ≡ None)
first_by true why rest p = let z : ◌≡◌ {A = ℕ} 0 1 = cc in let w : ⊥ = omega arith in elim w [ ]
first_by false why rest p = (refl, p)

-- No case applies: not the first, and none of the rest.
first_none : (why : Refusal) (b : Bool) (cs : List Check) → first (check why b ∷ cs) ≡ None → (b ≡ false) × (first cs ≡ None)
first_none why b cs p = first_by b why (first cs) p

-- None of the numbers passes the test.
some_of_false : (test : ℕ → Bool) (ks : List ℕ) → some_of test ks ≡ false → Every (λ k. test k ≡ false) ks
some_of_false test [] p = tt
some_of_false test (k ∷ ks) p =
    let q = or_parts (test k) (some_of test ks) p in
    (q.0, some_of_false test ks q.1)

-- Ends that are not bad.
good_ends : (top lo hi : ℕ) → bad_ends top lo hi ≡ false → (lo ≤ hi) × (hi ≤ top)
good_ends top lo hi p =
    let q = or_parts (ltb hi lo) (ltb top hi) p in
    (ltb-false hi lo q.0, ltb-false top hi q.1)

-- A line that is there.
is_line : (n k : ℕ) → no_line n k ≡ false → IsLine n k
is_line n k p =
    let q = or_parts (eqb k 0) (ltb n k) p in
    let f : (k ≡ 0 → ⊥) = eqb-false k 0 q.0 in
    record { above_zero = omega arith; there = ltb-false n k q.1 }

-- A rule of two lines names no third.
no_third_named : (n c : ℕ) → (eqb n 2 && not (eqb c 0)) ≡ false → n ≡ 2 → c ≡ 0
no_third_named n c p e =
    eqb-true c 0 (not-false (eqb c 0) (ap (λ b. b && not (eqb c 0)) (sym (eq-eqb n 2 e)) ∙ p))

-- An accepted line.
pub record LineTaken (m : Meaning) (s : Model) (lo hi : ℕ) : Type 0 where
  pub ordered : lo ≤ hi
  pub up_to_top : hi ≤ m.top
  pub room : length s.core.windows < most_lines

-- None of the cases of a line applied.
pub line_taken : (m : Meaning) (id : ℕ) (s : Model) (lo hi : ℕ) → verdict m id s (Call.Line lo hi) ≡ None → LineTaken m s lo hi
unfolding verdict checks
line_taken m id s lo hi p =
    let a = first_none IsBarren (is_barren s.core.state) (check Ends (bad_ends m.top lo hi) ∷ check Full (leb most_lines (length s.core.windows)) ∷ []) p in
    let b = first_none Ends (bad_ends m.top lo hi) (check Full (leb most_lines (length s.core.windows)) ∷ []) a.1 in
    let c = first_none Full (leb most_lines (length s.core.windows)) [] b.1 in
    let e = good_ends m.top lo hi b.0 in
    record { ordered = e.0; up_to_top = e.1; room = leb-false most_lines (length s.core.windows) c.0 }

-- An accepted rule.
pub record RuleTaken (m : Meaning) (s : Model) (r : Rule) : Type 0 where
  pub fits : FitRule m (length s.core.windows) r
  pub room : length s.core.rules < most_rules

-- None of the cases of a rule applied.
pub rule_taken : (m : Meaning) (id : ℕ) (s : Model) (r : Rule) → verdict m id s (Call.Rule r) ≡ None → RuleTaken m s r
unfolding verdict checks
rule_taken m id s r p =
    let ws = s.core.windows in
    let room = leb most_rules (length s.core.rules) in
    let a = first_none IsBarren (is_barren s.core.state)
    (check NoKind (eqb (m.arity r.kind) 0) ∷ check NoLine (misnames (m.arity r.kind) (length ws) r) ∷ check Twice (repeats (named m r)) ∷ check Full room ∷ []) p in
    let b = first_none NoKind (eqb (m.arity r.kind) 0) (check NoLine (misnames (m.arity r.kind) (length ws) r) ∷ check Twice (repeats (named m r)) ∷ check Full room ∷ []) a.1 in
    let c = first_none NoLine (misnames (m.arity r.kind) (length ws) r) (check Twice (repeats (named m r)) ∷ check Full room ∷ []) b.1 in
    let d = first_none Twice (repeats (named m r)) (check Full room ∷ []) c.1 in
    let e = first_none Full room [] d.1 in
    let f : (m.arity r.kind ≡ 0 → ⊥) = eqb-false (m.arity r.kind) 0 b.0 in
    let q = or_parts (some_of (no_line (length ws)) (named m r)) (eqb (m.arity r.kind) 2 && not (eqb r.c 0)) c.0 in
    record {
      fits = record {
        kind_there = omega arith;
        lines_there = every_map (λ k. no_line (length ws) k ≡ false) (IsLine (length ws)) (is_line (length ws)) (named m r) (some_of_false (no_line (length ws)) (named m r) q.0);
        different = d.0;
        no_third = no_third_named (m.arity r.kind) r.c q.1;
      };
      room = leb-false most_rules (length s.core.rules) e.0;
    }

-- An accepted pinch.
pub record PinchTaken (m : Meaning) (s : Model) (k lo hi : ℕ) : Type 0 where
  pub there : IsLine (length s.core.windows) k
  pub leaves : (cut (window s.core.windows k) lo hi).lo ≤ (cut (window s.core.windows k) lo hi).hi

-- None of the cases of a pinch applied.
pub pinch_taken : (m : Meaning) (id : ℕ) (s : Model) (k lo hi : ℕ) → verdict m id s (Call.Pinch k lo hi) ≡ None → PinchTaken m s k lo hi
unfolding verdict checks
pinch_taken m id s k lo hi p =
    let ws = s.core.windows in
    let v = cut (window ws k) lo hi in
    let a = first_none IsBarren (is_barren s.core.state) (check NoLine (no_line (length ws) k) ∷ check Ends (bad_ends m.top lo hi) ∷ check Empties (is_empty v) ∷ []) p in
    let b = first_none NoLine (no_line (length ws) k) (check Ends (bad_ends m.top lo hi) ∷ check Empties (is_empty v) ∷ []) a.1 in
    let c = first_none Ends (bad_ends m.top lo hi) (check Empties (is_empty v) ∷ []) b.1 in
    let d = first_none Empties (is_empty v) [] c.1 in
    record { there = is_line (length ws) k b.0; leaves = ltb-false v.hi v.lo d.0 }

-- An accepted open.
pub open_taken : (m : Meaning) (id : ℕ) (s : Model) → verdict m id s Call.Open ≡ None → length s.saved < most_tries
unfolding verdict checks
open_taken m id s p =
    let a = first_none IsBarren (is_barren s.core.state) (check TooManyTries (leb most_tries (length s.saved)) ∷ []) p in
    let b = first_none TooManyTries (leb most_tries (length s.saved)) [] a.1 in
    leb-false most_tries (length s.saved) b.0

-- A right ticket: a try is open.
right_ticket : (id n number depth : ℕ) → wrong_ticket id n number depth ≡ false → 0 < n
right_ticket id n number depth p =
    let a = or_parts (not (eqb number id)) (not (eqb depth n) || eqb depth 0) p in
    let b = or_parts (not (eqb depth n)) (eqb depth 0) a.1 in
    let e : depth ≡ n = eqb-true depth n (not-false (eqb depth n) b.0) in
    let f : (depth ≡ 0 → ⊥) = eqb-false depth 0 b.1 in
    omega arith

-- An accepted strike.
pub strike_taken : (m : Meaning) (id : ℕ) (s : Model) (number depth : ℕ) → verdict m id s (Call.Strike number depth) ≡ None → 0 < length s.saved
unfolding verdict checks
strike_taken m id s number depth p =
    let a = first_none WrongTicket (wrong_ticket id (length s.saved) number depth) [] p in
    right_ticket id (length s.saved) number depth a.0

-- An accepted settle ends one way.
settles_once :
    (m : Meaning) (s : Model) (n : ℕ) (t t' : Model) (answer answer' : Answer) →
    Settles m s n t answer → Settles m s n t' answer' → (t ≡ t') × (answer ≡ answer')
settles_once m s n t t' answer answer' p q =
    let e : p.ending ≡ q.ending = unique_ending m s.core.rules n s.core.windows p.ending q.ending p.run q.run in
    (p.leaves ∙ ap (λ x. with_core s (settled s.core x)) e ∙ sym q.leaves, p.says ∙ ap (told n) e ∙ sym q.says)

-- An accepted call does one thing.
does_once :
    (m : Meaning) (id : ℕ) (s : Model) (call : Call) (t t' : Model) (answer answer' : Answer) →
    Does m id s call t answer → Does m id s call t' answer' → (t ≡ t') × (answer ≡ answer')
does_once m id s (Call.Line lo hi) t t' answer answer' p q = (p.0 ∙ sym q.0, p.1 ∙ sym q.1)
does_once m id s (Call.Rule r) t t' answer answer' p q = (p.0 ∙ sym q.0, p.1 ∙ sym q.1)
does_once m id s (Call.Pinch k lo hi) t t' answer answer' p q = (p.0 ∙ sym q.0, p.1 ∙ sym q.1)
does_once m id s (Call.Settle n) t t' answer answer' p q = settles_once m s n t t' answer answer' p q
does_once m id s Call.Open t t' answer answer' p q = (p.0 ∙ sym q.0, p.1 ∙ sym q.1)
does_once m id s (Call.Keep number depth) t t' answer answer' p q = (p.0 ∙ sym q.0, p.1 ∙ sym q.1)
does_once m id s (Call.Strike number depth) t t' answer answer' p q = (p.0 ∙ sym q.0, p.1 ∙ sym q.1)

-- Two refusals of one verdict are the same, and an accepted call is not refused.
same_refusal : (o : Option Refusal) (why why' : Refusal) → o ≡ Some why → o ≡ Some why' → why ≡ why'
same_refusal o why why' p q = cc

-- A call is not both refused and accepted.
never_both : {X : Type 0} (o : Option Refusal) (why : Refusal) → o ≡ Some why → o ≡ None → X
never_both o why p q = let z : ◌≡◌ {A = ℕ} 0 1 = cc in let w : ⊥ = omega arith in elim w [ ]

-- A call on a sheet does one thing, and gives one answer.
pub steps_once : (m : Meaning) → Deterministic m
steps_once m id s call t t' answer answer' (refused why v p a) (refused why' v' q b) =
    (p ∙ sym q, a ∙ ap Answer.Refused (same_refusal (verdict m id s call) why why' v v') ∙ sym b)
steps_once m id s call t t' answer answer' (refused why v p a) (does v' q) = never_both (verdict m id s call) why v v'
steps_once m id s call t t' answer answer' (does v p) (refused why v' q b) = never_both (verdict m id s call) why v' v
steps_once m id s call t t' answer answer' (does v p) (does v' q) = does_once m id s call t t' answer answer' p q

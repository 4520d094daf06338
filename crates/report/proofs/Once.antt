-- A trace has one outcome. Assumes nothing.
use Rattle.std.proofs.Common.{◌≡◌, ℕ, ◌≤◌, List, length, Ok, Err, Result, sym, ap, ◌∙◌, subst, ap₂, arith}
use Rattle.half.specs.Roundings.{mode_number}
use Rattle.half.specs.declared.mode.Mode.{Mode}
use Rattle.windows.specs.Meanings.{Meaning}
use Rattle.windows.specs.Spans.{Span}
use Rattle.law.specs.declared.calls.Rule.{Rule}
use Rattle.law.specs.Steps.{told}
use Rattle.law.proofs.Runs.{unique_ending}
use Rattle.runs.specs.declared.settled.Settled.{Settled}
use Rattle.runs.specs.Rounds.{Finished, answered, left_by}
use Rattle.stored.specs.declared.fault.LoadFault.{LoadFault}
use Rattle.stored.specs.Loads.{Progress, loads}
use Rattle.report.specs.Refused.{Outcome, of_fault}
use Rattle.report.specs.Report.{over, report}
use Rattle.books.specs.HalfBooks.{half_meaning}
use Rattle.report.specs.Traces.{Comes, OutcomeOf, UniqueTrace, allowance}
use Rattle.report.specs.Traces.{by_counter, by_half, by_none, refused as faulted, settles, below, written}

-- An answer of settle is known by the answer of the call.
same_answer : (a b : Settled) → answered a ≡ answered b → a ≡ b
same_answer a b e = grind arith

-- Two settles of the same windows leave the same windows, with the same answer.
finished_once :
    (m : Meaning) (rules : List Rule) (n : ℕ) (ws vs us : List Span) (a b : Settled) →
    Finished m rules n ws vs a → Finished m rules n ws us b → (vs ≡ us) × (a ≡ b)
finished_once m rules n ws vs us a b f g =
    let e : f.ending ≡ g.ending = unique_ending m rules n ws f.ending g.ending f.ends g.ends in (
      f.leaves ∙ ap (left_by ws) e ∙ sym g.leaves,
      same_answer a b (f.says ∙ ap (told n) e ∙ sym g.says),
    )

-- The report of a load's outcome is one.
comes_once :
    (m : Meaning) (loaded : Result Progress LoadFault) (o p : Outcome) (vs us : List Span) →
    Comes m loaded o vs → Comes m loaded p us → report o vs ≡ report p us
comes_once m loaded o p vs us (faulted f e is) (faulted g d was) =
    let same : f ≡ g = cc in
    ap (λ (x : Outcome). report x vs) is
    ∙ ap (λ (x : LoadFault). report (Err (of_fault x)) vs) same
    ∙ sym (ap (λ (x : Outcome). report x us) was)
comes_once m loaded o p vs us (faulted f e is) (settles r b d was t) = cc
comes_once m loaded o p vs us (settles q a e is s) (faulted g d was) = cc
comes_once m loaded o p vs us (settles q a e is s) (settles r b d was t) =
    let same : r ≡ q = cc in
    let other : Finished m q.sheet.core.rules allowance q.sheet.core.windows us b =
    subst (λ (x : Progress). Finished m x.sheet.core.rules allowance x.sheet.core.windows us b) same t.finished in
    let once = finished_once m q.sheet.core.rules allowance q.sheet.core.windows vs us a b s.finished other in
    ap (λ (x : Outcome). report x vs) is
    ∙ ap₂ (λ (x : Settled) (ws : List Span). report (Ok x) ws) once.1 once.0
    ∙ sym (ap (λ (x : Outcome). report x us) was)

-- A mode is known by its number, which is at most 2.
same_mode : (a b : Mode) → mode_number a ≡ mode_number b → a ≡ b
same_mode a b e = grind arith

mode_few : (a : Mode) → mode_number a ≤ 2
mode_few a = grind arith

-- The report of a stored sheet is one.
outcome_once :
    (input : List ℕ) (o p : Outcome) (vs us : List Span) → OutcomeOf input o vs → OutcomeOf input p us → report o vs ≡ report p us
outcome_once input o p vs us (by_half a d e x) (by_half b f g y) =
    let same : b ≡ a = same_mode b a (sym g ∙ e) in
    comes_once (half_meaning a) (loads (half_meaning a) 0 0 (mode_number a) input) o p vs us x
    (subst (λ (c : Mode). Comes (half_meaning c) (loads (half_meaning c) 0 0 (mode_number c) input) p us) same y)
outcome_once input o p vs us (by_half a d e x) (by_counter f g y) = absurd (omega arith)
outcome_once input o p vs us (by_half a d e x) (by_none f g y) = absurd (omega (arith, f d, mode_few a))
outcome_once input o p vs us (by_counter d e x) (by_half b f g y) = absurd (omega arith)
outcome_once input o p vs us (by_counter d e x) (by_counter f g y) = comes_once _ _ o p vs us x y
outcome_once input o p vs us (by_counter d e x) (by_none f g y) = absurd (omega (arith, g d))
outcome_once input o p vs us (by_none d e x) (by_half b f g y) = absurd (omega (arith, d f, mode_few b))
outcome_once input o p vs us (by_none d e x) (by_counter f g y) = absurd (omega (arith, e f))
outcome_once input o p vs us (by_none d e x) (by_none f g y) =
    ap (λ (q : Outcome). report q vs) x ∙ sym (ap (λ (q : Outcome). report q us) y)

-- A trace leaves one memory, and gives one answer.
pub unique_trace : UniqueTrace
unique_trace input old new new' answer answer' (below l p q) (below l' p' q') = (p ∙ sym p', q ∙ sym q')
unique_trace input old new new' answer answer' (below l p q) (written l' r') = absurd (omega arith)
unique_trace input old new new' answer answer' (written l r) (below l' p' q') = absurd (omega arith)
unique_trace input old new new' answer answer' (written l r) (written l' r') =
    let same : report r.outcome r.windows ≡ report r'.outcome r'.windows = outcome_once input r.outcome r'.outcome r.windows r'.windows r.comes r'.comes in (
      r.bytes ∙ ap (λ (text : List ℕ). over text old) same ∙ sym r'.bytes,
      r.count ∙ ap length same ∙ sym r'.count,
    )

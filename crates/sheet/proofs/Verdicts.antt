-- The verdict on each call, in terms of what the tables hold; and what it makes of the call. Assumes nothing.
use Rattle.std.proofs.Common.{◌≡◌, ℕ, false, List, [], ◌∷◌, map, Some, None, Ok, Err, vec_items, vec_len, refl, ap, ◌∙◌, ap₂, arith}
use Rattle.windows.specs.Meanings.{Meaning}
use Rattle.windows.specs.Windows.{span}
use Rattle.law.specs.declared.calls.Answer.{Answer}
use Rattle.law.specs.declared.calls.Call.{Call}
use Rattle.law.specs.declared.calls.Refusal.{Refusal}
use Rattle.law.specs.declared.calls.Rule.{Rule}
use Rattle.law.specs.declared.calls.State.{State}
use Rattle.law.specs.declared.table.Check.{Check}
use Rattle.law.specs.Law.{Called}
use Rattle.law.specs.Sheets.{Model, window}
use Rattle.law.specs.Steps.{Does, refused, does}
use Rattle.law.specs.Table.{check, checks, first, is_barren, line_cases, open_cases, pinch_cases, rule_cases, ticket_cases, verdict}
use Rattle.law.proofs.Law.{call_lawful}
use Rattle.tables.specs.declared.state.Event.{Event}
use Rattle.tables.specs.declared.tables.Tables.{Tables}
use Rattle.tables.specs.States.{follows}
use Rattle.tables.specs.Views.{model}
use Rattle.tables.proofs.Counts.{lines_count, rules_count, tries_count}

-- An event that a barren sheet does not take.
abbrev Ordinary : Event → Type 0
Ordinary Event.Change = Unit {0}
Ordinary Event.Run = Unit {0}
Ordinary Event.Hold = Unit {0}
Ordinary (Event.Restore s) = ⊥

-- The cases behind the sheet's state: a barren sheet answers first.
abbrev pub behind : State → List Check → List Check
behind s cs = check Refusal.IsBarren (is_barren s) ∷ cs

-- The state turns the event away.
pub barred : (s : State) (e : Event) (why : Refusal) (cs : List Check) → Ordinary e → follows s e ≡ Err why → first (behind s cs) ≡ Some why
barred State.Unsettled Event.Change why cs o p = let z : ◌≡◌ {A = ℕ} 0 1 = cc in let w : ⊥ = omega arith in absurd w
barred State.Unsettled Event.Run why cs o p = let z : ◌≡◌ {A = ℕ} 0 1 = cc in let w : ⊥ = omega arith in absurd w
barred State.Unsettled Event.Hold why cs o p = let z : ◌≡◌ {A = ℕ} 0 1 = cc in let w : ⊥ = omega arith in absurd w
barred State.Unsettled (Event.Restore f) why cs o p = absurd o
barred State.Standing Event.Change why cs o p = let z : ◌≡◌ {A = ℕ} 0 1 = cc in let w : ⊥ = omega arith in absurd w
barred State.Standing Event.Run why cs o p = let z : ◌≡◌ {A = ℕ} 0 1 = cc in let w : ⊥ = omega arith in absurd w
barred State.Standing Event.Hold why cs o p = let z : ◌≡◌ {A = ℕ} 0 1 = cc in let w : ⊥ = omega arith in absurd w
barred State.Standing (Event.Restore f) why cs o p = absurd o
barred State.Barren Event.Change why cs o p = ap Some (cc)
barred State.Barren Event.Run why cs o p = ap Some (cc)
barred State.Barren Event.Hold why cs o p = ap Some (cc)
barred State.Barren (Event.Restore f) why cs o p = absurd o

-- The state takes the event: the other cases decide.
pub admitted : (s : State) (e : Event) (next : State) (cs : List Check) → Ordinary e → follows s e ≡ Ok next → first (behind s cs) ≡ first cs
admitted State.Unsettled e next cs o p = refl
admitted State.Standing e next cs o p = refl
admitted State.Barren Event.Change next cs o p = let z : ◌≡◌ {A = ℕ} 0 1 = cc in let w : ⊥ = omega arith in absurd w
admitted State.Barren Event.Run next cs o p = let z : ◌≡◌ {A = ℕ} 0 1 = cc in let w : ⊥ = omega arith in absurd w
admitted State.Barren Event.Hold next cs o p = let z : ◌≡◌ {A = ℕ} 0 1 = cc in let w : ⊥ = omega arith in absurd w
admitted State.Barren (Event.Restore f) next cs o p = absurd o

-- On a sheet that is not barren the other cases decide.
pub unbarred : (s : State) (cs : List Check) → is_barren s ≡ false → first (behind s cs) ≡ first cs
unbarred State.Unsettled cs p = refl
unbarred State.Standing cs p = refl
unbarred State.Barren cs p = let z : ◌≡◌ {A = ℕ} 0 1 = cc in let w : ⊥ = omega arith in absurd w

-- A sheet on which a try may be opened is not barren.
pub held : (s next : State) → follows s Event.Hold ≡ Ok next → is_barren s ≡ false
held State.Unsettled next p = refl
held State.Standing next p = refl
held State.Barren next p = let z : ◌≡◌ {A = ℕ} 0 1 = cc in let w : ⊥ = omega arith in absurd w

-- A change leaves the sheet unsettled.
pub unsettled : (s next : State) → follows s Event.Change ≡ Ok next → next ≡ State.Unsettled
unsettled State.Unsettled next p = cc
unsettled State.Standing next p = cc
unsettled State.Barren next p = let z : ◌≡◌ {A = ℕ} 0 1 = cc in let w : ⊥ = omega arith in absurd w

module _ (t : Tables) where
  module _ (m : Meaning) (id : ℕ) where
    pub line_verdict : (lo hi : ℕ) → verdict m id (model t) (Call.Line lo hi) ≡ first (behind t.state (line_cases m.top (vec_len t.lines.windows) lo hi))
    unfolding verdict checks
    line_verdict lo hi = ap (λ (n : ℕ). first (behind t.state (line_cases m.top n lo hi))) (lines_count t)

    pub rule_verdict : (r : Rule) → verdict m id (model t) (Call.Rule r) ≡ first (behind t.state (rule_cases (m.arity r.kind) (vec_len t.lines.windows) (vec_len t.rules.items) r))
    unfolding verdict checks
    rule_verdict r = ap₂ (λ (n k : ℕ). first (behind t.state (rule_cases (m.arity r.kind) n k r))) (lines_count t) (rules_count t)

    pub pinch_verdict : (k lo hi : ℕ) → verdict m id (model t) (Call.Pinch k lo hi) ≡ first (behind t.state (pinch_cases m.top (vec_len t.lines.windows) (window (map span (vec_items t.lines.windows)) k) k lo hi))
    unfolding verdict checks
    pinch_verdict k lo hi = ap (λ (n : ℕ). first (behind t.state (pinch_cases m.top n (window (map span (vec_items t.lines.windows)) k) k lo hi))) (lines_count t)

    pub settle_verdict : (n : ℕ) → verdict m id (model t) (Call.Settle n) ≡ first (behind t.state [])
    unfolding verdict checks
    settle_verdict n = refl

    pub open_verdict : verdict m id (model t) Call.Open ≡ first (behind t.state (open_cases (vec_len t.tries)))
    unfolding verdict checks
    open_verdict = ap (λ (n : ℕ). first (behind t.state (open_cases n))) (tries_count t)

    pub keep_verdict : (number depth : ℕ) → verdict m id (model t) (Call.Keep number depth) ≡ first (behind t.state (ticket_cases id (vec_len t.tries) number depth))
    unfolding verdict checks
    keep_verdict number depth = ap (λ (n : ℕ). first (behind t.state (ticket_cases id n number depth))) (tries_count t)

    pub strike_verdict : (number depth : ℕ) → verdict m id (model t) (Call.Strike number depth) ≡ first (ticket_cases id (vec_len t.tries) number depth)
    unfolding verdict checks
    strike_verdict number depth = ap (λ (n : ℕ). first (ticket_cases id n number depth)) (tries_count t)

    -- the sheet's state decides on this call, or leaves it to the other cases
    pub line_barred : (lo hi : ℕ) (why : Refusal) → follows t.state Event.Change ≡ Err why → verdict m id (model t) (Call.Line lo hi) ≡ Some why
    line_barred lo hi why p = line_verdict lo hi ∙ barred t.state Event.Change why (line_cases m.top (vec_len t.lines.windows) lo hi) tt p

    pub line_cleared : (lo hi : ℕ) (next : State) → follows t.state Event.Change ≡ Ok next → verdict m id (model t) (Call.Line lo hi) ≡ first (line_cases m.top (vec_len t.lines.windows) lo hi)
    line_cleared lo hi next p = line_verdict lo hi ∙ admitted t.state Event.Change next (line_cases m.top (vec_len t.lines.windows) lo hi) tt p

    -- the sheet's state decides on this call, or leaves it to the other cases
    pub rule_barred : (r : Rule) (why : Refusal) → follows t.state Event.Change ≡ Err why → verdict m id (model t) (Call.Rule r) ≡ Some why
    rule_barred r why p = rule_verdict r ∙ barred t.state Event.Change why (rule_cases (m.arity r.kind) (vec_len t.lines.windows) (vec_len t.rules.items) r) tt p

    pub rule_cleared : (r : Rule) (next : State) → follows t.state Event.Change ≡ Ok next → verdict m id (model t) (Call.Rule r) ≡ first (rule_cases (m.arity r.kind) (vec_len t.lines.windows) (vec_len t.rules.items) r)
    rule_cleared r next p = rule_verdict r ∙ admitted t.state Event.Change next (rule_cases (m.arity r.kind) (vec_len t.lines.windows) (vec_len t.rules.items) r) tt p

    -- the sheet's state decides on this call, or leaves it to the other cases
    pub pinch_barred : (k lo hi : ℕ) (why : Refusal) → follows t.state Event.Change ≡ Err why → verdict m id (model t) (Call.Pinch k lo hi) ≡ Some why
    pinch_barred k lo hi why p = pinch_verdict k lo hi ∙ barred t.state Event.Change why (pinch_cases m.top (vec_len t.lines.windows) (window (map span (vec_items t.lines.windows)) k) k lo hi) tt p

    pub pinch_cleared : (k lo hi : ℕ) (next : State) → follows t.state Event.Change ≡ Ok next → verdict m id (model t) (Call.Pinch k lo hi) ≡ first (pinch_cases m.top (vec_len t.lines.windows) (window (map span (vec_items t.lines.windows)) k) k lo hi)
    pinch_cleared k lo hi next p = pinch_verdict k lo hi ∙ admitted t.state Event.Change next (pinch_cases m.top (vec_len t.lines.windows) (window (map span (vec_items t.lines.windows)) k) k lo hi) tt p

    -- the sheet's state decides on this call, or leaves it to the other cases
    pub settle_barred : (n : ℕ) (why : Refusal) → follows t.state Event.Run ≡ Err why → verdict m id (model t) (Call.Settle n) ≡ Some why
    settle_barred n why p = settle_verdict n ∙ barred t.state Event.Run why [] tt p

    pub settle_cleared : (n : ℕ) (next : State) → follows t.state Event.Run ≡ Ok next → verdict m id (model t) (Call.Settle n) ≡ None
    settle_cleared n next p = settle_verdict n ∙ admitted t.state Event.Run next [] tt p

    -- the sheet's state decides on this call, or leaves it to the other cases
    pub open_barred : (why : Refusal) → follows t.state Event.Hold ≡ Err why → verdict m id (model t) Call.Open ≡ Some why
    open_barred why p = open_verdict ∙ barred t.state Event.Hold why (open_cases (vec_len t.tries)) tt p

    pub open_cleared : (next : State) → follows t.state Event.Hold ≡ Ok next → verdict m id (model t) Call.Open ≡ first (open_cases (vec_len t.tries))
    open_cleared next p = open_verdict ∙ admitted t.state Event.Hold next (open_cases (vec_len t.tries)) tt p

    -- the sheet's state decides on this call, or leaves it to the other cases
    pub keep_barred : (number depth : ℕ) (why : Refusal) → follows t.state Event.Hold ≡ Err why → verdict m id (model t) (Call.Keep number depth) ≡ Some why
    keep_barred number depth why p = keep_verdict number depth ∙ barred t.state Event.Hold why (ticket_cases id (vec_len t.tries) number depth) tt p

    pub keep_cleared : (number depth : ℕ) (next : State) → follows t.state Event.Hold ≡ Ok next → verdict m id (model t) (Call.Keep number depth) ≡ first (ticket_cases id (vec_len t.tries) number depth)
    keep_cleared number depth next p = keep_verdict number depth ∙ admitted t.state Event.Hold next (ticket_cases id (vec_len t.tries) number depth) tt p

-- A call that is turned away leaves the sheet, and the law holds.
pub turned_away : (m : Meaning) (id : ℕ) (s : Model) (call : Call) (why : Refusal) → verdict m id s call ≡ Some why → Called m id s call s (Answer.Refused why)
turned_away m id s call why v = call_lawful m id s call s (Answer.Refused why) (λ f. refused why v refl refl)

-- A call that is taken does what it does, and the law holds.
pub taken : (m : Meaning) (id : ℕ) (s : Model) (call : Call) (t : Model) (answer : Answer) → verdict m id s call ≡ None → Does m id s call t answer → Called m id s call t answer
taken m id s call t answer v d = call_lawful m id s call t answer (λ f. does v d)

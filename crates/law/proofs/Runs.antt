-- The run of settle: it has one ending, loses no standing box, and where it ends standing every rule holds.
--   limits   windows that the run's windows lie within from the start
-- Assumes nothing but what each lemma states.
use Rattle.std.proofs.Common.{◌≡◌, ℕ, suc, ◌<◌, Bool, true, false, List, [], ◌∷◌, ◌++◌, length, sym, refl, ◌∙◌, subst, append_assoc, append-nil, arith}
use lib.ListN.{length-map}
use Rattle.std.proofs.lemmas.Bool.{true≢false}
use Rattle.windows.specs.Spans.{Span, Every, Within, Ordered}
use Rattle.windows.specs.Choices.{Smallest}
use Rattle.windows.specs.Meanings.{Meaning}
use Rattle.windows.proofs.Spans.{within_trans, every_append}
use Rattle.windows.proofs.Smallest.{choice_within, smallest_within, smallest_unique, smallest_ordered, smallest_some, held_within}
use Rattle.law.specs.declared.calls.Rule.{Rule}
use Rattle.law.specs.Sheets.{named, windows_of, put}
use Rattle.law.specs.Runs.{Ending, standing, spent, barren, Run, Narrows, Still, HasNone, EndsWith, UniqueEnding}
use Rattle.law.specs.Runs.Run.{none, still, narrows, too_many, next_round, quiet}
use Rattle.law.specs.Boxes.{Held}
use Rattle.law.proofs.Spans.{within_put, put_within, map_within, every_put}

-- A rule that has no choice does not also close.
none_closes : {X : Type 0} (m : Meaning) (ws : List Span) (r : Rule) (vs : List Span) →
    HasNone m ws r → Smallest (m.related r.kind) (windows_of m ws r) vs → X
none_closes m ws r vs f s = absurd (smallest_some (m.related r.kind) (windows_of m ws r) vs s f)

-- A rule that is still does not also narrow.
still_narrows : {X : Type 0} (m : Meaning) (ws : List Span) (r : Rule) (vs : List Span) → Still m ws r → Narrows m ws r vs → X
still_narrows m ws r vs s n = absurd (n.other (smallest_unique (m.related r.kind) (windows_of m ws r) vs (windows_of m ws r) n.smallest s))

-- A rule narrows to one box.
narrows_same : (m : Meaning) (ws : List Span) (r : Rule) (us vs : List Span) → Narrows m ws r us → Narrows m ws r vs → us ≡ vs
narrows_same m ws r us vs s t = smallest_unique (m.related r.kind) (windows_of m ws r) us vs s.smallest t.smallest

-- A run has one ending.
run_unique :
    {m : Meaning} {rules : List Rule} {n : ℕ} {todo : List Rule} {k : ℕ} {q : Bool} {c : ℕ} {ws : List Span} {e e' : Ending} →
    Run m rules n todo k q c ws e → Run m rules n todo k q c ws e' → e ≡ e'
run_unique (none f) (none g) = refl
run_unique {m} (none {r = r} {ws = ws} f) (still s t) = none_closes m ws r (windows_of m ws r) f s
run_unique {m} (none {r = r} {ws = ws} f) (narrows {vs = vs} s l t) = none_closes m ws r vs f s.smallest
run_unique {m} (none {r = r} {ws = ws} f) (too_many {vs = vs} s l) = none_closes m ws r vs f s.smallest
run_unique {m} (still {r = r} {ws = ws} s t) (none f) = none_closes m ws r (windows_of m ws r) f s
run_unique (still s t) (still s' t') = run_unique t t'
run_unique {m} (still {r = r} {ws = ws} s t) (narrows {vs = vs} s' l t') = still_narrows m ws r vs s s'
run_unique {m} (still {r = r} {ws = ws} s t) (too_many {vs = vs} s' l) = still_narrows m ws r vs s s'
run_unique {m} (narrows {r = r} {ws = ws} {vs = vs} s l t) (none f) = none_closes m ws r vs f s.smallest
run_unique {m} (narrows {r = r} {ws = ws} {vs = vs} s l t) (still s' t') = still_narrows m ws r vs s' s
run_unique {m} {rules} {n} {e' = e'} (narrows {r = r} {todo = todo} {k = k} {c = c} {ws = ws} {vs = vs} s l t) (narrows {vs = us} s' l' t') =
    run_unique t
    (subst (λ (x : List Span). Run m rules n todo (suc k) true (suc c) (put (named m r) x ws) e') (narrows_same m ws r us vs s' s) t')
run_unique (narrows s l t) (too_many s' l') = let z : ⊥ = omega arith in elim z [ ]
run_unique {m} (too_many {r = r} {ws = ws} {vs = vs} s l) (none f) = none_closes m ws r vs f s.smallest
run_unique {m} (too_many {r = r} {ws = ws} {vs = vs} s l) (still s' t') = still_narrows m ws r vs s' s
run_unique (too_many s l) (narrows s' l' t') = let z : ⊥ = omega arith in elim z [ ]
run_unique (too_many s l) (too_many s' l') = refl
run_unique (next_round t) (next_round t') = run_unique t t'
run_unique quiet quiet = refl

-- The run of settle has no two endings.
pub unique_ending : (m : Meaning) → UniqueEnding m
unique_ending m rules n ws e e' s t = run_unique s t

-- P of the windows that a run reaches, and Q where it ends barren.
abbrev pub At : (List Span → Type 0) → Type 0 → Ending → Type 0
At P Q (standing c ws) = P ws
At P Q (spent ws) = P ws
At P Q (barren k) = Q

-- The windows written back by a narrowing lie within the limits.
pub narrowed_within : (m : Meaning) (limits ws vs : List Span) (r : Rule) → Narrows m ws r vs → Within ws limits → Within (put (named m r) vs ws) limits
narrowed_within m limits ws vs r s p =
    put_within (named m r) vs ws limits p
    (within_trans vs (windows_of m ws r) (windows_of m limits r)
    (smallest_within (m.related r.kind) (windows_of m ws r) vs s.smallest)
    (map_within (named m r) ws limits p))

-- A run's windows stay within the limits.
pub run_within :
    {m : Meaning} {rules : List Rule} {n : ℕ} (limits : List Span) {todo : List Rule} {k : ℕ} {q : Bool} {c : ℕ} {ws : List Span} {e : Ending} →
    Run m rules n todo k q c ws e → Within ws limits → At (λ vs. Within vs limits) Unit e
run_within limits (none f) p = tt
run_within limits (still s t) p = run_within limits t p
run_within {m} limits (narrows {r = r} {ws = ws} {vs = vs} s l t) p = run_within limits t (narrowed_within m limits ws vs r s p)
run_within limits (too_many s l) p = p
run_within limits (next_round t) p = run_within limits t p
run_within limits quiet p = p

-- Their ends stay in order.
pub run_ordered :
    {m : Meaning} {rules : List Rule} {n : ℕ} {todo : List Rule} {k : ℕ} {q : Bool} {c : ℕ} {ws : List Span} {e : Ending} →
    Run m rules n todo k q c ws e → Every Ordered ws → At (Every Ordered) Unit e
run_ordered (none f) p = tt
run_ordered (still s t) p = run_ordered t p
run_ordered {m} (narrows {r = r} {ws = ws} {vs = vs} s l t) p =
    run_ordered t
    (every_put Ordered (named m r) vs ws p (smallest_ordered (m.related r.kind) (windows_of m ws r) vs s.smallest))
run_ordered (too_many s l) p = p
run_ordered (next_round t) p = run_ordered t p
run_ordered quiet p = p

-- Where a run ends standing, P of the windows reached.
abbrev pub StandingAt : (List Span → Type 0) → Ending → Type 0
StandingAt P (standing c ws) = P ws
StandingAt P (spent ws) = Unit
StandingAt P (barren k) = Unit

-- A rule that is still holds.
still_held : (m : Meaning) (ws : List Span) (r : Rule) → Still m ws r → Held m ws r
unfolding Held
still_held m ws r s = s.ends

-- Where a run ends standing, every rule holds: in the last round each was still, and no window moved between.
run_stands :
    {m : Meaning} {rules : List Rule} {n : ℕ} {todo : List Rule} {k : ℕ} {q : Bool} {c : ℕ} {ws : List Span} {e : Ending} →
    Run m rules n todo k q c ws e → (done : List Rule) → done ++ todo ≡ rules → (q ≡ false → Every (Held m ws) done) →
    StandingAt (λ vs. Every (Held m vs) rules) e
run_stands (none f) done p h = tt
run_stands {m} (still {r = r} {todo = todo} {ws = ws} s t) done p h =
    run_stands t (done ++ (r ∷ [])) (append_assoc done (r ∷ []) todo ∙ p)
    (λ e. every_append (Held m ws) done (r ∷ []) (h e) (still_held m ws r s, tt))
run_stands (narrows {r = r} {todo = todo} s l t) done p h =
    run_stands t (done ++ (r ∷ [])) (append_assoc done (r ∷ []) todo ∙ p) (λ e. absurd (true≢false e))
run_stands (too_many s l) done p h = tt
run_stands (next_round t) done p h = run_stands t [] refl (λ e. tt)
run_stands {m} (quiet {ws = ws}) done p h = subst (λ (rs : List Rule). Every (Held m ws) rs) (sym (append-nil done) ∙ p) (h refl)

-- A standing box within the windows lies within what a narrowing makes of them.
narrowed_keeps : (m : Meaning) (us ws vs : List Span) (r : Rule) → Held m us r → Within us ws → Narrows m ws r vs → Within us (put (named m r) vs ws)
unfolding Held
narrowed_keeps m us ws vs r h p s =
    within_put (named m r) vs us ws p
    (held_within (m.related r.kind) (windows_of m us r) (windows_of m ws r) vs (map_within (named m r) us ws p) s.smallest h)

-- A rule that names a line, and has no choice in the windows, holds in no box within them.
none_held : (m : Meaning) (us ws : List Span) (r : Rule) → 0 < length (windows_of m us r) → Held m us r → Within us ws → HasNone m ws r → ⊥
unfolding Held
none_held m us ws r l h p f =
    let s = (h 0 l).lower in
    f s.codes (choice_within (m.related r.kind) (windows_of m us r) (windows_of m ws r) s.codes (map_within (named m r) us ws p) s.choice)

-- The rule names a line.
abbrev pub NamesOne : Meaning → Rule → Type 0
NamesOne m r = 0 < length (named m r)

-- A run loses no box in which every rule holds; and none is there where it ends barren.
run_kept :
    {m : Meaning} {rules : List Rule} {n : ℕ} (us : List Span) → Every (Held m us) rules → Every (NamesOne m) rules →
    {todo : List Rule} {k : ℕ} {q : Bool} {c : ℕ} {ws : List Span} {e : Ending} →
    Run m rules n todo k q c ws e → Every (Held m us) todo → Every (NamesOne m) todo → Within us ws → At (Within us) ⊥ e
run_kept {m} us a b (none {r = r} {ws = ws} f) h o p =
    let l : 0 < length (windows_of m us r) = rw length-map o.0 in
    none_held m us ws r l h.0 p f
run_kept us a b (still s t) h o p = run_kept us a b t h.1 o.1 p
run_kept {m} us a b (narrows {r = r} {ws = ws} {vs = vs} s l t) h o p =
    run_kept us a b t h.1 o.1 (narrowed_keeps m us ws vs r h.0 p s)
run_kept us a b (too_many s l) h o p = p
run_kept us a b (next_round t) h o p = run_kept us a b t a b p
run_kept us a b quiet h o p = p

-- The same of the run of settle from its start.
pub keeps :
    {m : Meaning} {rules : List Rule} {n : ℕ} {ws : List Span} {e : Ending} (us : List Span) →
    Every (Held m us) rules → Every (NamesOne m) rules → EndsWith m rules n ws e → Within us ws → At (Within us) ⊥ e
keeps us h o t p = run_kept us h o t h o p

-- Where the run of settle ends standing, every rule holds.
pub ends_standing :
    {m : Meaning} {rules : List Rule} {n : ℕ} {ws : List Span} {e : Ending} →
    EndsWith m rules n ws e → StandingAt (λ vs. Every (Held m vs) rules) e
ends_standing t = run_stands t [] refl (λ e. tt)

-- What is in force after one more call.
-- Assumes nothing.
use Rattle.std.proofs.Common.{◌≡◌, ℕ, ◌<◌, ◌≤◌, Bool, true, false, cond, not, ◌&&◌, ◌||◌, List, [], ◌∷◌, length, sym, refl, ap, ◌∙◌, subst, ap₂, inl, arith, length-drop}
use Rattle.std.proofs.lemmas.Bool.{ne_eqb, cond-true, cond-false, not_from_false, and_from}
use Rattle.windows.specs.Spans.{Every}
use Rattle.law.specs.declared.calls.Call.{Call}
use Rattle.law.specs.Histories.{Entry, History, accepted, earliest}
use Rattle.law.specs.Force.{tried, tries, gone_by, struck, changes, has, meet, lasts, lasting, InForce}
use Rattle.law.proofs.Tries.{Mem, facts, meet_false, lasting_back, struck_agrees}

-- Two lists of struck tries that agree below n.
abbrev Agree : ℕ → List ℕ → List ℕ → Type 0
Agree n gone gone' = (x : ℕ) → x < n → has x gone ≡ has x gone'

-- Numbers below n meet both lists or neither.
meet_same : (n : ℕ) (gone gone' ts : List ℕ) → Agree n gone gone' → Every (λ t. t < n) ts → meet ts gone ≡ meet ts gone'
meet_same n gone gone' [] a p = refl
meet_same n gone gone' (t ∷ ts) a p = ap₂ ◌||◌ (a t p.0) (meet_same n gone gone' ts a p.1)

-- The same calls last where the struck tries agree on the numbers that the history knows.
lasting_same : (gone gone' : List ℕ) (h : History) → Agree (length h) gone gone' → lasting gone h ≡ lasting gone' h
unfolding lasting
lasting_same gone gone' [] a = refl
lasting_same gone gone' (e ∷ h) a =
    let a' : Agree (length h) gone gone' = λ x l. a x (omega arith) in
    let same : meet (tries h) gone ≡ meet (tries h) gone' = meet_same (length h) gone gone' (tries h) a' (facts h).below in
    let rest : lasting gone h ≡ lasting gone' h = lasting_same gone gone' h a' in
    ap₂ (λ (b : Bool) (cs : List Call). cond (accepted e.answer && (changes e.call && not b)) (e.call ∷ cs) cs) same rest

-- A refused call opens, closes and strikes nothing.
pub tries_refused : (e : Entry) (h : History) → accepted e.answer ≡ false → tries (e ∷ h) ≡ tries h
unfolding tries
tries_refused e h p = cond-false (accepted e.answer) (tried e.call (length h) (tries h)) (tries h) p

-- The open tries after an accepted call.
pub tries_accepted : (e : Entry) (h : History) → accepted e.answer ≡ true → tries (e ∷ h) ≡ tried e.call (length h) (tries h)
unfolding tries
tries_accepted e h p = cond-true (accepted e.answer) (tried e.call (length h) (tries h)) (tries h) p

-- A refused call strikes nothing.
struck_refused : (e : Entry) (h : History) → accepted e.answer ≡ false → struck (e ∷ h) ≡ struck h
unfolding struck
struck_refused e h p = cond-false (accepted e.answer) (gone_by e.call (tries h) (struck h)) (struck h) p

-- The struck tries after an accepted call.
struck_accepted : (e : Entry) (h : History) → accepted e.answer ≡ true → struck (e ∷ h) ≡ gone_by e.call (tries h) (struck h)
unfolding struck
struck_accepted e h p = cond-true (accepted e.answer) (gone_by e.call (tries h) (struck h)) (struck h) p

-- A call that does not last is passed over.
lasting_unless : (gone : List ℕ) (e : Entry) (h : History) → lasts gone e h ≡ false → lasting gone (e ∷ h) ≡ lasting gone h
unfolding lasting
lasting_unless gone e h p = cond-false (lasts gone e h) (e.call ∷ lasting gone h) (lasting gone h) p

-- A refused call changes nothing in force.
pub force_refused : (e : Entry) (h : History) → accepted e.answer ≡ false → InForce (e ∷ h) ≡ InForce h
force_refused e h p =
    ap (λ g. lasting g (e ∷ h)) (struck_refused e h p)
    ∙ lasting_unless (struck h) e h (ap (λ b. b && (changes e.call && not (meet (tries h) (struck h)))) p)

-- A call that strikes nothing, and is no line, rule or pinch.
aside : (x y z : Bool) → y ≡ false → (x && (y && z)) ≡ false
aside true y z p = ap (λ b. b && z) p
aside false y z p = refl

-- An accepted call that is no line, rule or pinch and strikes nothing changes nothing in force.
pub force_same :
    (e : Entry) (h : History) → accepted e.answer ≡ true → changes e.call ≡ false → ((ts gone : List ℕ) → gone_by e.call ts gone ≡ gone) →
    InForce (e ∷ h) ≡ InForce h
force_same e h p c s =
    ap (λ g. lasting g (e ∷ h)) (struck_accepted e h p ∙ s (tries h) (struck h))
    ∙ lasting_unless (struck h) e h (aside (accepted e.answer) (changes e.call) (not (meet (tries h) (struck h))) c)

-- An accepted line, rule or pinch comes into force.
pub force_more :
    (e : Entry) (h : History) → accepted e.answer ≡ true → changes e.call ≡ true → ((ts gone : List ℕ) → gone_by e.call ts gone ≡ gone) →
    InForce (e ∷ h) ≡ e.call ∷ InForce h
unfolding lasting
force_more e h p c s =
    ap (λ g. lasting g (e ∷ h)) (struck_accepted e h p ∙ s (tries h) (struck h))
    ∙ cond-true (lasts (struck h) e h) (e.call ∷ lasting (struck h) h) (lasting (struck h) h)
    (and_from (accepted e.answer) (changes e.call && not (meet (tries h) (struck h))) p
    (and_from (changes e.call) (not (meet (tries h) (struck h))) c
    (not_from_false (meet (tries h) (struck h)) (meet_false (tries h) (struck h) (facts h).apart))))

-- The earliest t entries are t entries.
pub earliest_length : (t : ℕ) (h : History) → t ≤ length h → length (earliest t h) ≡ t
earliest_length t h l = simp length-drop (omega arith)

-- After an accepted strike in force is what was in force at the open that it closes.
pub force_struck :
    (e : Entry) (h : History) (t : ℕ) (ts : List ℕ) → accepted e.answer ≡ true → changes e.call ≡ false →
    ((gone : List ℕ) → gone_by e.call (t ∷ ts) gone ≡ t ∷ gone) → tries h ≡ t ∷ ts →
    InForce (e ∷ h) ≡ InForce (earliest t h)
force_struck e h t ts p c s q =
    let gone = t ∷ struck h in
    let is-gone : struck (e ∷ h) ≡ gone = struck_accepted e h p ∙ ap (λ us. gone_by e.call us (struck h)) q ∙ s (struck h) in
    let open-still : Mem t (tries h) = subst (λ (us : List ℕ). Mem t us) (sym q) (inl refl) in
    let below : Every (λ x. x < length h) (t ∷ ts) = subst (λ (us : List ℕ). Every (λ x. x < length h) us) q (facts h).below in
    let l : t < length h = below.0 in
    let size : length (earliest t h) ≡ t = earliest_length t h (omega arith) in
    ap (λ g. lasting g (e ∷ h)) is-gone
    ∙ lasting_unless gone e h (aside (accepted e.answer) (changes e.call) (not (meet (tries h) gone)) c)
    ∙ lasting_back gone t h (inl refl) open-still
    ∙ lasting_same gone (struck (earliest t h)) (earliest t h)
    (λ x k.
    let k' : x < t = omega arith in
    ap (λ b. b || has x (struck h)) (ne_eqb x t (λ z. omega arith)) ∙ struck_agrees x t h k' open-still)

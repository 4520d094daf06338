-- Tries, and the calls that last, along a history.
--   below    every try goes by a number below the count of calls
--   falls    the open tries, latest first, go by falling numbers
--   apart    no open try has been struck
-- Assumes nothing.
use Rattle.std.proofs.Common.{◌≡◌, ℕ, suc, ◌-◌, ◌<◌, ◌≤◌, Bool, true, false, cond, not, ◌&&◌, ◌||◌, eqb, ◌⊎◌, List, [], ◌∷◌, length, drop, sym, refl, ap, ◌∙◌, subst, inl, inr, arith}
use Rattle.std.proofs.lemmas.Bool.{eq-eqb, ne_eqb, cond-false, or_left, or_right, or_from}
use Rattle.windows.specs.Spans.{Every}
use Rattle.windows.proofs.Spans.{every_map}
use Rattle.law.specs.declared.calls.Call.{Call}
use Rattle.law.specs.Histories.{Entry, History, accepted, earliest}
use Rattle.law.specs.Force.{tried, tries, gone_by, struck, changes, has, meet, lasts, lasting}

-- t is one of the numbers.
abbrev pub Mem : ℕ → List ℕ → Type 0
Mem t [] = ⊥
Mem t (x ∷ xs) = (t ≡ x) ⊎ Mem t xs

-- Each number is above all that follow.
abbrev pub Falls : List ℕ → Type 0
Falls [] = Unit {0}
Falls (t ∷ ts) = Every (λ x. x < t) ts × Falls ts

-- A number of the list is found in it.
pub has_true : (t : ℕ) (ts : List ℕ) → Mem t ts → has t ts ≡ true
has_true t [] p = elim p [ ]
has_true t (x ∷ xs) p =
    elim p [ inl e ↦ or_left (eqb t x) (has t xs) (eq-eqb t x e) | inr q ↦ or_right (eqb t x) (has t xs) (has_true t xs q) ]

-- Two lists that share a number meet.
pub meet_true : (t : ℕ) (ts gone : List ℕ) → Mem t ts → Mem t gone → meet ts gone ≡ true
meet_true t [] gone p q = elim p [ ]
meet_true t (x ∷ xs) gone p q =
    elim p [
      | inl e ↦ or_left (has x gone) (meet xs gone) (subst (λ (y : ℕ). has y gone ≡ true) e (has_true t gone q))
      | inr r ↦ or_right (has x gone) (meet xs gone) (meet_true t xs gone r q)
    ]

-- Lists apart do not meet.
pub meet_false : (ts gone : List ℕ) → Every (λ t. has t gone ≡ false) ts → meet ts gone ≡ false
meet_false [] gone p = refl
meet_false (t ∷ ts) gone p = or_from (has t gone) (meet ts gone) p.0 (meet_false ts gone p.1)

-- A number of which all members are below another is not the other.
pub below_not : (n : ℕ) (ts : List ℕ) → Every (λ t. t < n) ts → has n ts ≡ false
below_not n [] p = refl
below_not n (t ∷ ts) p =
    let l : t < n = p.0 in
    or_from (eqb n t) (has n ts) (ne_eqb n t (λ e. omega arith)) (below_not n ts p.1)

-- A number of a list whose members are all below n is below n.
pub mem_below : (n t : ℕ) (ts : List ℕ) → Every (λ x. x < n) ts → Mem t ts → t < n
mem_below n t [] p q = elim q [ ]
mem_below n t (x ∷ xs) p q = elim q [ inl e ↦ subst (λ (y : ℕ). y < n) (sym e) p.0 | inr r ↦ mem_below n t xs p.1 r ]

-- What is known of the open and the struck tries after n calls.
pub record Facts (n : ℕ) (ts gone : List ℕ) : Type 0 where
  pub below : Every (λ t. t < n) ts
  pub falls : Falls ts
  pub gone_below : Every (λ t. t < n) gone
  pub apart : Every (λ t. has t gone ≡ false) ts

-- What is below n is below n + 1.
more_below : (n : ℕ) (ts : List ℕ) → Every (λ t. t < n) ts → Every (λ t. t < suc n) ts
more_below n ts p = every_map (λ t. t < n) (λ t. t < suc n) (λ t l. omega arith) ts p

-- One more call that opens and closes nothing.
facts_on : (n : ℕ) (ts gone : List ℕ) → Facts n ts gone → Facts (suc n) ts gone
facts_on n ts gone f =
    record { below = more_below n ts f.below; falls = f.falls; gone_below = more_below n gone f.gone_below; apart = f.apart }

-- A try is begun.
facts_open : (n : ℕ) (ts gone : List ℕ) → Facts n ts gone → Facts (suc n) (n ∷ ts) gone
facts_open n ts gone f =
    record {
      below = (omega arith, more_below n ts f.below);
      falls = (f.below, f.falls);
      gone_below = more_below n gone f.gone_below;
      apart = (below_not n gone f.gone_below, f.apart);
    }

-- The latest try is kept.
facts_keep : (n : ℕ) (ts gone : List ℕ) → Facts n ts gone → Facts (suc n) (drop 1 ts) gone
facts_keep n [] gone f = facts_on n [] gone f
facts_keep n (t ∷ ts) gone f =
    record {
      below = more_below n ts f.below.1;
      falls = f.falls.1;
      gone_below = more_below n gone f.gone_below;
      apart = f.apart.1;
    }

-- Numbers below t stay apart from the struck tries when t is struck.
apart_more : (t : ℕ) (gone ts : List ℕ) → Every (λ x. x < t) ts → Every (λ x. has x gone ≡ false) ts → Every (λ x. has x (t ∷ gone) ≡ false) ts
apart_more t gone [] p q = tt
apart_more t gone (x ∷ xs) p q =
    let l : x < t = p.0 in
    (or_from (eqb x t) (has x gone) (ne_eqb x t (λ e. omega arith)) q.0, apart_more t gone xs p.1 q.1)

-- The latest try is struck.
facts_strike : (n number depth : ℕ) (ts gone : List ℕ) → Facts n ts gone → Facts (suc n) (drop 1 ts) (gone_by (Call.Strike number depth) ts gone)
facts_strike n number depth [] gone f = facts_on n [] gone f
facts_strike n number depth (t ∷ ts) gone f =
    let l : t < n = f.below.0 in
    record {
      below = more_below n ts f.below.1;
      falls = f.falls.1;
      gone_below = (omega arith, more_below n gone f.gone_below);
      apart = apart_more t gone ts f.falls.0 f.apart.1;
    }

-- Any accepted call.
facts_call : (call : Call) (n : ℕ) (ts gone : List ℕ) → Facts n ts gone → Facts (suc n) (tried call n ts) (gone_by call ts gone)
facts_call (Call.Line lo hi) n ts gone f = facts_on n ts gone f
facts_call (Call.Rule r) n ts gone f = facts_on n ts gone f
facts_call (Call.Pinch k lo hi) n ts gone f = facts_on n ts gone f
facts_call (Call.Settle a) n ts gone f = facts_on n ts gone f
facts_call Call.Open n ts gone f = facts_open n ts gone f
facts_call (Call.Keep number depth) n ts gone f = facts_keep n ts gone f
facts_call (Call.Strike number depth) n ts gone f = facts_strike n number depth ts gone f

-- Any call, accepted or not.
facts_by :
    (b : Bool) (call : Call) (n : ℕ) (ts gone : List ℕ) → Facts n ts gone →
    Facts (suc n) (cond b (tried call n ts) ts) (cond b (gone_by call ts gone) gone)
facts_by true call n ts gone f = facts_call call n ts gone f
facts_by false call n ts gone f = facts_on n ts gone f

-- After every history.
pub facts : (h : History) → Facts (length h) (tries h) (struck h)
unfolding tries struck
facts [] = record { below = tt; falls = tt; gone_below = tt; apart = tt }
facts (e ∷ h) = facts_by (accepted e.answer) e.call (length h) (tries h) (struck h) (facts h)

-- How a try came to be open after a call: begun by it, or open before, and then what the call struck is above it.
data Came (b : Bool) (call : Call) (n : ℕ) (ts : List ℕ) (t : ℕ) : Type 0 where
  begun : t ≡ n → (b && changes call) ≡ false → ((gone : List ℕ) → cond b (gone_by call ts gone) gone ≡ gone) → Came b call n ts t
  stayed : Mem t ts → ((x : ℕ) (gone : List ℕ) → x < t → has x (cond b (gone_by call ts gone) gone) ≡ has x gone) → Came b call n ts t

-- A number below all of a falling list's numbers is not its first.
has_below : (x t s : ℕ) (gone : List ℕ) → x < t → t < s → has x (s ∷ gone) ≡ has x gone
has_below x t s gone l k = ap (λ b. b || has x gone) (ne_eqb x s (λ e. omega arith))

-- A strike.
came_strike : (number depth n : ℕ) (ts : List ℕ) (t : ℕ) → Falls ts → Mem t (drop 1 ts) → Came true (Call.Strike number depth) n ts t
came_strike number depth n [] t f p = elim p [ ]
came_strike number depth n (s ∷ ts) t f p = stayed (inr p) (λ x gone l. has_below x t s gone l (mem_below s t ts f.0 p))

-- A keep.
came_keep : (number depth n : ℕ) (ts : List ℕ) (t : ℕ) → Mem t (drop 1 ts) → Came true (Call.Keep number depth) n ts t
came_keep number depth n [] t p = elim p [ ]
came_keep number depth n (s ∷ ts) t p = stayed (inr p) (λ x gone l. refl)

-- Any accepted call.
came_call : (call : Call) (n : ℕ) (ts : List ℕ) (t : ℕ) → Falls ts → Mem t (tried call n ts) → Came true call n ts t
came_call (Call.Line lo hi) n ts t f p = stayed p (λ x gone l. refl)
came_call (Call.Rule r) n ts t f p = stayed p (λ x gone l. refl)
came_call (Call.Pinch k lo hi) n ts t f p = stayed p (λ x gone l. refl)
came_call (Call.Settle a) n ts t f p = stayed p (λ x gone l. refl)
came_call Call.Open n ts t f p = elim p [ inl e ↦ begun e refl (λ gone. refl) | inr q ↦ stayed q (λ x gone l. refl) ]
came_call (Call.Keep number depth) n ts t f p = came_keep number depth n ts t p
came_call (Call.Strike number depth) n ts t f p = came_strike number depth n ts t f p

-- Any call, accepted or not.
came : (b : Bool) (call : Call) (n : ℕ) (ts : List ℕ) (t : ℕ) → Falls ts → Mem t (cond b (tried call n ts) ts) → Came b call n ts t
came true call n ts t f p = came_call call n ts t f p
came false call n ts t f p = stayed p (λ x gone l. refl)

-- The earliest entries of a history, after one more, are the same.
pub earliest_on : (t : ℕ) (e : Entry) (h : History) → t ≤ length h → earliest t (e ∷ h) ≡ earliest t h
earliest_on t e h l =
    let k : length (e ∷ h) - t ≡ suc (length h - t) = omega arith in
    ap (λ n. drop n (e ∷ h)) k

-- All entries of a history are its earliest.
pub earliest_all : (h : History) → earliest (length h) h ≡ h
earliest_all h =
    let k : length h - length h ≡ 0 = omega arith in
    ap (λ n. drop n h) k

-- A call that does not last is passed over.
lasting_skip : (gone : List ℕ) (e : Entry) (h : History) → lasts gone e h ≡ false → lasting gone (e ∷ h) ≡ lasting gone h
unfolding lasting
lasting_skip gone e h p = cond-false (lasts gone e h) (e.call ∷ lasting gone h) (lasting gone h) p

-- What was not accepted, or is no line, rule or pinch, does not last.
lasts_unless : (x y z : Bool) → (x && y) ≡ false → (x && (y && not z)) ≡ false
lasts_unless true true z p = elim z as (λ v. (true && (true && not v)) ≡ false) [ true ↦ refl | false ↦ p ]
lasts_unless true false z p = refl
lasts_unless false y z p = refl

-- Nor does what was done in a struck try.
lasts_met : (x y z : Bool) → z ≡ true → (x && (y && not z)) ≡ false
lasts_met true true z p = ap not p
lasts_met true false z p = refl
lasts_met false y z p = refl

-- Where an open try counts as struck, only the calls made before its open last.
pub lasting_back : (gone : List ℕ) (t : ℕ) (h : History) → Mem t gone → Mem t (tries h) → lasting gone h ≡ lasting gone (earliest t h)
unfolding tries
lasting_back gone t [] g p = elim p [ ]
lasting_back gone t (e ∷ h) g p =
    let f = facts h in
    elim (came (accepted e.answer) e.call (length h) (tries h) t f.falls p) [
      | begun q c s ↦
          let l : t ≤ length h = omega arith in
          lasting_skip gone e h (lasts_unless (accepted e.answer) (changes e.call) (meet (tries h) gone) c)
          ∙ ap (lasting gone) (sym (earliest_on t e h l ∙ ap (λ n. earliest n h) q ∙ earliest_all h))
      | stayed q s ↦
          let k : t < length h = mem_below (length h) t (tries h) f.below q in
          let l : t ≤ length h = omega arith in
          lasting_skip gone e h (lasts_met (accepted e.answer) (changes e.call) (meet (tries h) gone) (meet_true t (tries h) gone q g))
          ∙ lasting_back gone t h g q
          ∙ ap (lasting gone) (sym (earliest_on t e h l))
    ]

-- What was struck since a try was begun that is still open is above that try.
pub struck_agrees : (x t : ℕ) (h : History) → x < t → Mem t (tries h) → has x (struck h) ≡ has x (struck (earliest t h))
unfolding tries struck
struck_agrees x t [] l p = elim p [ ]
struck_agrees x t (e ∷ h) l p =
    let f = facts h in
    elim (came (accepted e.answer) e.call (length h) (tries h) t f.falls p) [
      | begun q c s ↦
          let k : t ≤ length h = omega arith in
          ap (has x) (s (struck h)) ∙ ap (λ g. has x (struck g)) (sym (earliest_on t e h k ∙ ap (λ n. earliest n h) q ∙ earliest_all h))
      | stayed q s ↦
          let j : t < length h = mem_below (length h) t (tries h) f.below q in
          let k : t ≤ length h = omega arith in
          s x (struck h) l ∙ struck_agrees x t h l q ∙ ap (λ g. has x (struck g)) (sym (earliest_on t e h k))
    ]

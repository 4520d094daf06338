-- The run of settle ends, where each try is decided.
--   good     windows that fit, as many as there are lines
--   fuel     a bound on the narrowings left: each round but the last makes one
-- Assumes what each lemma states.
use Rattle.std.proofs.Common.{◌≡◌, ℕ, zero, suc, ◌+◌, ◌-◌, ◌<◌, ◌≤◌, Bool, true, false, cond, ◌⊎◌, List, [], ◌∷◌, map, length, take, Some, None, Option, sym, refl, ap, ◌∙◌, subst, ap₂, inl, inr, arith}
use lib.ListN.{length-map}
use Rattle.std.proofs.lemmas.Bool.{cases_eq, cases_lt}
use Rattle.windows.specs.Spans.{Span, nowhere, Every, Within, Ordered}
use Rattle.windows.specs.Choices.{Smallest}
use Rattle.windows.specs.Meanings.{Meaning}
use Rattle.windows.proofs.Spans.{within_refl, within_length, every_at, every_map}
use Rattle.windows.proofs.Smallest.{smallest_ordered}
use Rattle.law.specs.declared.calls.Rule.{Rule}
use Rattle.law.specs.declared.calls.Call.{Call}
use Rattle.law.specs.declared.calls.Answer.{Answer}
use Rattle.law.specs.declared.calls.Refusal.{Refusal}
use Rattle.law.specs.Sheets.{Model, named, window, windows_of, put}
use Rattle.law.specs.Runs.{Ending, standing, spent, barren, Run, Narrows, Still, HasNone}
use Rattle.law.specs.Runs.Run.{none, still, narrows, too_many, next_round, quiet}
use Rattle.law.specs.Table.{verdict}
use Rattle.law.specs.Steps.{Does, Steps, refused, does}
use Rattle.law.specs.Sound.{Fits, IsLine, FitRule, Decided, has_none, closes_to, SoundCore, Decides, EndingExists, Total}
use Rattle.law.proofs.Spans.{every_put}
use Rattle.law.proofs.Runs.{narrowed_within}
use Rattle.law.proofs.Soundness.{fits_within}

-- Two windows are equal or not; two boxes too.
same_span : (v w : Span) → (v ≡ w) ⊎ (v ≡ w → ⊥)
same_span v w =
    elim (cases_eq v.lo w.lo) [
      | inl p ↦ elim (cases_eq v.hi w.hi) [ inl q ↦ inl (λ i. record { lo = p i; hi = q i }) | inr f ↦ inr (λ e. f (ap (λ x. x.hi) e)) ]
      | inr f ↦ inr (λ e. f (ap (λ x. x.lo) e))
    ]

-- Equal boxes have equal first windows.
same_head : (v w : Span) (vs ws : List Span) → v ∷ vs ≡ w ∷ ws → v ≡ w
same_head v w vs ws p = cc

-- And equal rests.
same_tail : (v w : Span) (vs ws : List Span) → v ∷ vs ≡ w ∷ ws → vs ≡ ws
same_tail v w vs ws p = cc

-- Two boxes are equal or not.
same_box : (vs ws : List Span) → (vs ≡ ws) ⊎ (vs ≡ ws → ⊥)
same_box [] [] = inl refl
same_box [] (w ∷ ws) = inr (λ p. let z : ◌≡◌ {A = ℕ} 0 1 = cc in omega arith)
same_box (v ∷ vs) [] = inr (λ p. let z : ◌≡◌ {A = ℕ} 0 1 = cc in omega arith)
same_box (v ∷ vs) (w ∷ ws) =
    elim (same_span v w) [
      | inl p ↦ elim (same_box vs ws) [ inl q ↦ inl (ap₂ ◌∷◌ p q) | inr f ↦ inr (λ e. f (same_tail v w vs ws e)) ]
      | inr f ↦ inr (λ e. f (same_head v w vs ws e))
    ]

-- What the try of a rule comes to.
data Tried (m : Meaning) (ws : List Span) (r : Rule) : Type 0 where
  comes_to_none : HasNone m ws r → Tried m ws r
  stays : Still m ws r → Tried m ws r
  moves : (vs : List Span) → Narrows m ws r vs → Tried m ws r

-- A try with a smallest box is still or narrows.
tried_closes : (m : Meaning) (ws : List Span) (r : Rule) (vs : List Span) → Smallest (m.related r.kind) (windows_of m ws r) vs → Tried m ws r
tried_closes m ws r vs s =
    elim (same_box vs (windows_of m ws r)) [
      | inl e ↦ stays (subst (λ (us : List Span). Smallest (m.related r.kind) (windows_of m ws r) us) e s)
      | inr f ↦ moves vs (record { smallest = s; other = f })
    ]

-- A decided try comes to one of the three.
tried_decided : (m : Meaning) (ws : List Span) (r : Rule) → Decided (m.related r.kind) (windows_of m ws r) → Tried m ws r
tried_decided m ws r (has_none f) = comes_to_none f
tried_decided m ws r (closes_to vs s) = tried_closes m ws r vs s

-- The windows of lines that are there fit.
pub windows_fit_at : (m : Meaning) (ws : List Span) (ks : List ℕ) → Every (Fits m) ws → Every (IsLine (length ws)) ks → Every (Fits m) (map (window ws) ks)
windows_fit_at m ws [] f p = tt
windows_fit_at m ws (k ∷ ks) f p =
    let l : k - 1 < length ws = omega (arith, p.0) in
    (every_at (Fits m) ws (k - 1) nowhere f l, windows_fit_at m ws ks f p.1)

-- A rule names as many lines as its kind says.
named_length : (n a b c : ℕ) → (n ≡ 0) ⊎ ((n ≡ 2) ⊎ (n ≡ 3)) → length (take n (a ∷ b ∷ c ∷ [])) ≡ n
named_length n a b c p =
    elim p [
      | inl e ↦ subst (λ (x : ℕ). length (take x (a ∷ b ∷ c ∷ [])) ≡ x) (sym e) refl
      | inr q ↦ elim q [
        | inl e ↦ subst (λ (x : ℕ). length (take x (a ∷ b ∷ c ∷ [])) ≡ x) (sym e) refl
        | inr e ↦ subst (λ (x : ℕ). length (take x (a ∷ b ∷ c ∷ [])) ≡ x) (sym e) refl
      ]
    ]

-- Windows that fit, as many as there are lines.
pub record Good (m : Meaning) (size : ℕ) (ws : List Span) : Type 0 where
  pub fits : Every (Fits m) ws
  pub sized : length ws ≡ size

-- The try of a rule that fits, on good windows.
tries_rule : (m : Meaning) → Decides m → (size : ℕ) (ws : List Span) (r : Rule) → Good m size ws → FitRule m size r → Tried m ws r
tries_rule m d size ws r g f =
    let there : Every (IsLine (length ws)) (named m r) = subst (λ (n : ℕ). Every (IsLine n) (named m r)) (sym g.sized) f.lines_there in
    tried_decided m ws r
    (d r.kind f.kind_there (windows_of m ws r)
    (length-map (named m r) (window ws) ∙ named_length (m.arity r.kind) r.a r.b r.c (m.counts r.kind))
    (windows_fit_at m ws (named m r) g.fits there))

-- A narrowing leaves good windows.
pub good_narrowed : (m : Meaning) (size : ℕ) (ws vs : List Span) (r : Rule) → Good m size ws → Narrows m ws r vs → Good m size (put (named m r) vs ws)
good_narrowed m size ws vs r g s =
    let p : Within (put (named m r) vs ws) ws = narrowed_within m ws ws vs r s (within_refl ws) in
    let o : Every Ordered (put (named m r) vs ws) =
    every_put Ordered (named m r) vs ws (every_map (Fits m) Ordered (λ w q. q.ordered) ws g.fits)
    (smallest_ordered (m.related r.kind) (windows_of m ws r) vs s.smallest) in
    record { fits = fits_within m (put (named m r) vs ws) ws o p g.fits; sized = within_length (put (named m r) vs ws) ws p ∙ g.sized }

-- An ending of the run from there on.
abbrev Ends : Meaning → List Rule → ℕ → List Rule → ℕ → Bool → ℕ → List Span → Type 0
Ends m rules n todo k q c ws = (e : Ending) × Run m rules n todo k q c ws e

module _ (m : Meaning) (d : Decides m) (rules : List Rule) (size : ℕ) (fit : Every (FitRule m size) rules) (n : ℕ) where
  -- One try, from what the rest of the round comes to.
  round_step :
      (r : Rule) (todo : List Rule) (k : ℕ) (q : Bool) (c : ℕ) (ws : List Span) → Good m size ws → Tried m ws r →
      Ends m rules n todo (suc k) q c ws →
      ((vs : List Span) → Narrows m ws r vs → c < n → Ends m rules n todo (suc k) true (suc c) (put (named m r) vs ws)) →
      Ends m rules n (r ∷ todo) k q c ws
  round_step r todo k q c ws g (comes_to_none f) rest more = (barren k, none f)
  round_step r todo k q c ws g (stays s) rest more = (rest.0, still s rest.1)
  round_step r todo k q c ws g (moves vs s) rest more =
      elim (cases_lt c n) [
        | inl l ↦ let x = more vs s l in (x.0, narrows s l x.1)
        | inr l ↦ (spent ws, too_many s l)
      ]

  -- The rest of a round: fuel bounds the narrowings left, with one more where the round has had one already.
  round :
      (fuel : ℕ) → ((c : ℕ) (ws : List Span) → Good m size ws → n - c < fuel → Ends m rules n rules 1 false c ws) →
      (todo : List Rule) → Every (FitRule m size) todo → (k : ℕ) (q : Bool) (c : ℕ) (ws : List Span) → Good m size ws →
      n - c + cond q 1 0 ≤ fuel → Ends m rules n todo k q c ws
  round fuel again [] f k true c ws g l = let x = again c ws g (omega arith) in (x.0, next_round x.1)
  round fuel again [] f k false c ws g l = (standing c ws, quiet)
  round fuel again (r ∷ todo) f k q c ws g l =
      round_step r todo k q c ws g (tries_rule m d size ws r g f.0)
      (round fuel again todo f.1 (suc k) q c ws g l)
      (λ vs s less. round fuel again todo f.1 (suc k) true (suc c) (put (named m r) vs ws) (good_narrowed m size ws vs r g s) (omega arith))

  -- Whole rounds: each that is followed by another has used up fuel.
  rounds : (fuel : ℕ) (c : ℕ) (ws : List Span) → Good m size ws → n - c < fuel → Ends m rules n rules 1 false c ws
  rounds zero c ws g l = let z : ⊥ = omega arith in elim z [ ]
  rounds (suc fuel) c ws g l = round fuel (rounds fuel) rules fit 1 false c ws g (omega arith)

-- The run of settle has an ending, from every sound core, where each try is decided.
pub ending_exists : (m : Meaning) → EndingExists m
ending_exists m d c s n =
    rounds m d c.rules (length c.windows) s.rules_fit n (suc n) 0 c.windows
    (record { fits = s.windows_fit; sized = refl }) (omega arith)

-- An accepted call does something.
does_something :
    (m : Meaning) → Decides m → (id : ℕ) (s : Model) → SoundCore m s.core → (call : Call) →
    (t : Model) × (answer : Answer) × Does m id s call t answer
does_something m d id s f (Call.Line lo hi) = (_, _, (refl, refl))
does_something m d id s f (Call.Rule r) = (_, _, (refl, refl))
does_something m d id s f (Call.Pinch k lo hi) = (_, _, (refl, refl))
does_something m d id s f (Call.Settle n) =
    let x = ending_exists m d s.core f n in
    (_, _, record { ending = x.0; run = x.1; leaves = refl; says = refl })
does_something m d id s f Call.Open = (_, _, (refl, refl))
does_something m d id s f (Call.Keep number depth) = (_, _, (refl, refl))
does_something m d id s f (Call.Strike number depth) = (_, _, (refl, refl))

-- Every call on a sound sheet leads somewhere, with an answer.
pub total : (m : Meaning) → Total m
total m d id s f call = by_verdict (verdict m id s call) refl
  where
    by_verdict : (o : Option Refusal) → verdict m id s call ≡ o → (t : Model) × (answer : Answer) × Steps m id s call t answer
    by_verdict (Some why) v = (s, Answer.Refused why, refused why v refl refl)
    by_verdict None v = let x = does_something m d id s f call in (x.0, x.1, does v x.2)

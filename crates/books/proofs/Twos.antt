-- The smallest box of two windows whose codes are in order. Assumes nothing.
use Rattle.std.proofs.Common.{◌≡◌, ℕ, zero, suc, ◌<◌, ◌≤◌, min, max, List, [], ◌∷◌, get_or, refl, arith}
use Rattle.windows.specs.Spans.{Span, In, Each, nowhere}
use Rattle.windows.specs.Choices.{Choice, NoChoice, EndsSupported, Smallest}
use Rattle.books.specs.Kinds.{IsNotAfter}

module _ (a b : Span) where
  -- A choice of the rule has two codes in order.
  back : (xs : List ℕ) → Choice IsNotAfter (a ∷ b ∷ []) xs → (x : ℕ) × (y : ℕ) × In a x × In b y × (x ≤ y) × (xs ≡ x ∷ y ∷ [])
  back [] h = absurd h.related
  back (x ∷ []) h = absurd h.related
  back (x ∷ y ∷ []) h = (x, y, h.each.0, h.each.1.0, h.related, refl)
  back (x ∷ y ∷ z ∷ rest) h = absurd h.related

  -- The first begins after the second has ended: no choice.
  pub two_none : b.hi < a.lo → NoChoice IsNotAfter (a ∷ b ∷ [])
  two_none apart xs h = let k = back xs h in omega (arith, k.2.from, k.3.to, k.4)

  module _ (first : a.lo ≤ a.hi) (second : b.lo ≤ b.hi) (meet : a.lo ≤ b.hi) where
    -- Two codes of the windows in order are a choice.
    onto : (x y : ℕ) → a.lo ≤ x → x ≤ a.hi → b.lo ≤ y → y ≤ b.hi → x ≤ y → Choice IsNotAfter (a ∷ b ∷ []) (x ∷ y ∷ [])
    onto x y l1 h1 l2 h2 o = record { each = (record { from = l1; to = h1 }, (record { from = l2; to = h2 }, tt)); related = o }

    -- The closed windows.
    abbrev pub closed : List Span
    closed = record { lo = a.lo; hi = min a.hi b.hi } ∷ record { lo = max a.lo b.lo; hi = b.hi } ∷ []

    -- No choice is lost.
    holds : (xs : List ℕ) → Choice IsNotAfter (a ∷ b ∷ []) xs → Each closed xs
    holds xs h =
        let k = back xs h in
        let f1 = k.2.from in
        let t1 = k.2.to in
        let f2 = k.3.from in
        let t2 = k.3.to in
        let o = k.4 in
        rw k.5 (record { from = f1; to = omega arith }, (record { from = omega arith; to = t2 }, tt))

    -- Each end belongs to a choice.
    ends : (i : ℕ) → i < 2 → EndsSupported IsNotAfter (a ∷ b ∷ []) i (get_or closed i nowhere)
    ends zero h = record {
      lower = record { codes = a.lo ∷ b.hi ∷ []; choice = onto _ _ (omega arith) (omega arith) (omega arith) (omega arith) meet; here = refl };
      upper = record { codes = min a.hi b.hi ∷ b.hi ∷ []; choice = onto _ _ (omega arith) (omega arith) (omega arith) (omega arith) (omega arith); here = refl };
    }
    ends (suc zero) h = record {
      lower = record { codes = a.lo ∷ max a.lo b.lo ∷ []; choice = onto _ _ (omega arith) (omega arith) (omega arith) (omega arith) (omega arith); here = refl };
      upper = record { codes = a.lo ∷ b.hi ∷ []; choice = onto _ _ (omega arith) (omega arith) (omega arith) (omega arith) meet; here = refl };
    }
    ends (suc (suc i)) h = let z : ⊥ = omega arith in absurd z

    -- The first is cut at the second's upper end, the second at the first's lower end.
    pub two_closes : Smallest IsNotAfter (a ∷ b ∷ []) closed
    two_closes = record { same = refl; codes = a.lo ∷ b.hi ∷ []; some = onto _ _ (omega arith) (omega arith) (omega arith) (omega arith) meet; holds = holds; ends = ends }

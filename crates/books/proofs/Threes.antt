-- The smallest box of an operation, told of the windows of a three-line rule. Assumes nothing.
use Rattle.std.proofs.Common.{◌≡◌, ℕ, zero, suc, ◌<◌, List, [], ◌∷◌, get_or, refl, arith}
use Rattle.boxes.specs.declared.interval.Interval.{Interval}
use Rattle.boxes.specs.declared.triple.Triple.{Triple}
use Rattle.boxes.specs.Boxes as boxes
use Rattle.windows.specs.Spans.{Span, Each, nowhere}
use Rattle.windows.specs.Choices.{Choice, NoChoice, EndsSupported}
use Rattle.books.specs.Kinds.{Made}
use Rattle.books.specs.Narrowings.{Closes, at}

module _ (f : ℕ → ℕ → ℕ) (a b c : Interval) where
  -- The windows of the rule.
  abbrev three : List Span
  three = at a ∷ at b ∷ at c ∷ []

  -- A choice of the operation is one of the rule.
  onto : (x y z : ℕ) → boxes.Choice f a b c x y z → Choice (Made f) three (x ∷ y ∷ z ∷ [])
  onto x y z h = record {
    each = (record { from = h.first.from; to = h.first.to }, (record { from = h.second.from; to = h.second.to }, (record { from = h.third.from; to = h.third.to }, tt)));
    related = h.result;
  }

  -- A choice of the rule has three codes, and is one of the operation.
  back : (xs : List ℕ) → Choice (Made f) three xs → (x : ℕ) × (y : ℕ) × (z : ℕ) × boxes.Choice f a b c x y z × (xs ≡ x ∷ y ∷ z ∷ [])
  back [] h = absurd h.related
  back (x ∷ []) h = absurd h.related
  back (x ∷ y ∷ []) h = absurd h.related
  back (x ∷ y ∷ z ∷ []) h = (
    x,
    y,
    z,
    record {
      first = record { from = h.each.0.from; to = h.each.0.to };
      second = record { from = h.each.1.0.from; to = h.each.1.0.to };
      third = record { from = h.each.1.1.0.from; to = h.each.1.1.0.to };
      result = h.related;
    },
    refl,
  )
  back (x ∷ y ∷ z ∷ w ∷ rest) h = absurd h.related

  -- No choice of the operation: none of the rule.
  pub three_none : ((x y z : ℕ) → boxes.Choice f a b c x y z → ⊥) → NoChoice (Made f) three
  three_none none xs h = let k = back xs h in none k.0 k.1 k.2 k.3

  module _ (box : Triple Interval) (small : boxes.Smallest f a b c box) where
    -- The closed windows.
    abbrev closed : List Span
    closed = at box.a ∷ at box.b ∷ at box.c ∷ []

    -- No choice of the rule is lost.
    holds : (xs : List ℕ) → Choice (Made f) three xs → Each closed xs
    holds xs h =
        let k = back xs h in
        let lies = small.holds k.0 k.1 k.2 k.3 in
        rw k.4 (record { from = lies.first.from; to = lies.first.to }, (record { from = lies.second.from; to = lies.second.to }, (record { from = lies.third.from; to = lies.third.to }, tt)))

    -- Each end belongs to a choice of the rule.
    ends : (i : ℕ) → i < 3 → EndsSupported (Made f) three i (get_or closed i nowhere)
    ends zero h =
        let l = small.first_lo in
        let u = small.first_hi in
        record {
          lower = record { codes = _; choice = onto _ _ _ l.2; here = refl };
          upper = record { codes = _; choice = onto _ _ _ u.2; here = refl };
        }
    ends (suc zero) h =
        let l = small.second_lo in
        let u = small.second_hi in
        record {
          lower = record { codes = _; choice = onto _ _ _ l.2; here = refl };
          upper = record { codes = _; choice = onto _ _ _ u.2; here = refl };
        }
    ends (suc (suc zero)) h =
        let l = small.third_lo in
        let u = small.third_hi in
        record {
          lower = record { codes = _; choice = onto _ _ _ l.2; here = refl };
          upper = record { codes = _; choice = onto _ _ _ u.2; here = refl };
        }
    ends (suc (suc (suc i))) h = let z : ⊥ = omega arith in absurd z

    -- The smallest box of the operation is the smallest box of the rule.
    pub three_closes : Closes 3 (Made f) three closed
    three_closes = record {
      smallest = record { same = refl; codes = _; some = onto _ _ _ small.first_lo.2; holds = holds; ends = ends };
      kept = refl;
    }

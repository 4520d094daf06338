-- The laws of every format, put to half products and sums.
use Rattle.std.proofs.Common.{◌≡◌, ℕ, ◌+◌, ◌<◌, ◌≤◌, refl, subst, arith, pow_pos}
use Rattle.std.proofs.lemmas.Bool.Decides.{nat_tests}
use Rattle.codes.specs.Operations.{within}
use Rattle.half.specs.Formats.{half, size, Exact, exact_product, exact_sum}
use Rattle.half.specs.Roundings.{Rounds, rounded}
use Rattle.half.specs.declared.mode.Mode.{Mode}
use Rattle.half.specs.Rounded.{rounded_is, rounds_one, rounded_bounded}
use Rattle.half.proofs.laws.half_top.Goals as goal

-- Within the codes, a code up to top + 1 stays as it is.
inside : (top a b r : ℕ) → a ≤ top → b ≤ top → r ≤ top + 1 → r ≡ within top a b r
inside top a b r ha hb hr = grind (arith, nat_tests)

-- The code within top is in the relation.
rounds : (m : Mode) (e : Exact) (a b : ℕ) → 0 < e.scale → a ≤ half.top → b ≤ half.top → Rounds half m e (within half.top a b (rounded half m e))
rounds m e a b pos ha hb = subst (Rounds half m e) (inside half.top a b (rounded half m e) ha hb (rounded_bounded half m e)) (rounded_is half m e pos)

-- It is the only one.
alone : (m : Mode) (e : Exact) (a b r : ℕ) → 0 < e.scale → a ≤ half.top → b ≤ half.top → Rounds half m e r → r ≡ within half.top a b (rounded half m e)
alone m e a b r pos ha hb is = rounds_one half m e pos r _ is (rounds m e a b pos ha hb)

-- The size of the first code past top, computed.
past_top : size half 31744 ≡ 1099511627776
unfolding size
past_top = refl

pub returns-clause-rounding : goal.returns-clause-rounding
returns-clause-rounding c = record { meets = rounded_is; alone = rounds_one }

pub returns-clause-half : goal.returns-clause-half
returns-clause-half c = record {
  product_rounds = λ m a b ha hb. rounds m (exact_product half a b) a b (pow_pos 24) ha hb;
  product_alone = λ m a b r ha hb is. alone m (exact_product half a b) a b r (pow_pos 24) ha hb is;
  sum_rounds = λ m a b ha hb. rounds m (exact_sum half a b) a b (omega arith) ha hb;
  sum_alone = λ m a b r ha hb is. alone m (exact_sum half a b) a b r (omega arith) ha hb is;
  past_top = past_top;
}

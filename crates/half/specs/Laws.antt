-- What is proved of the roundings, and of half products and sums, beyond each call's own promise.
--   rounding    the relation `Rounds` between an exact result and its code, and the function `rounded` that computes the code
--   results     of one operation on two codes: in mode 0, toward zero, in mode 1, to nearest, and in mode 2, up
-- Assumes nothing.
use Rattle.std.specs.Prelude.{◌≡◌, ℕ, ◌^◌, ◌<◌, ◌≤◌}
use Rattle.half.specs.Formats.{Format, half, size, Exact, exact_product, exact_sum}
use Rattle.half.specs.Roundings.{Rounds, rounded, product, sum}
use Rattle.half.specs.declared.mode.Mode.{Mode}
use Rattle.half.specs.declared.mode.Mode.TheVariants.{TowardZero, Nearest, Up}

-- For every format, mode and exact result: the rounded code is in the relation, and no other code is.
pub record RoundingLaw : Type 0 where
  pub meets : (F : Format) (m : Mode) (e : Exact) → 0 < e.scale → Rounds F m e (rounded F m e)
  pub alone : (F : Format) (m : Mode) (e : Exact) → 0 < e.scale → (r r' : ℕ) → Rounds F m e r → Rounds F m e r' → r ≡ r'

-- For every two half codes and every mode: the product and the sum are the exact result's rounded code, and the only one;
-- and the first code past top has the size 2^40.
pub record HalfLaw : Type 0 where
  pub product_rounds : (m : Mode) (a b : ℕ) → a ≤ half.top → b ≤ half.top → Rounds half m (exact_product half a b) (product half m a b)
  pub product_alone : (m : Mode) (a b r : ℕ) → a ≤ half.top → b ≤ half.top → Rounds half m (exact_product half a b) r → r ≡ product half m a b
  pub sum_rounds : (m : Mode) (a b : ℕ) → a ≤ half.top → b ≤ half.top → Rounds half m (exact_sum half a b) (sum half m a b)
  pub sum_alone : (m : Mode) (a b r : ℕ) → a ≤ half.top → b ≤ half.top → Rounds half m (exact_sum half a b) r → r ≡ sum half m a b
  pub past_top : size half 31744 ≡ 2 ^ 40

-- An operation's results in modes 0, 1 and 2.
pub record Results (operation : Mode → ℕ) (zeroward nearest upward : ℕ) : Type 0 where
  pub mode_0 : operation TowardZero ≡ zeroward
  pub mode_1 : operation Nearest ≡ nearest
  pub mode_2 : operation Up ≡ upward

-- Worked cases: a product of normal values, a tie, a product of a subnormal value, results past top, a tie at top, and one just below it.
pub record HalfCases : Type 0 where
  pub product_normal : Results (λ m. product half m 15361 15361) 15362 15362 15363
  pub product_tie : Results (λ m. product half m 15361 15872) 15873 15874 15874
  pub product_subnormal : Results (λ m. product half m 3 14336) 1 2 2
  pub product_over : Results (λ m. product half m 31743 16384) 31743 31744 31744
  pub sum_tie : Results (λ m. sum half m 31743 19456) 31743 31744 31744
  pub sum_under : Results (λ m. sum half m 31743 19455) 31743 31743 31744

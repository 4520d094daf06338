-- Rounding an exact result to a code of a binary format, in three directions.
--   exact result   a number of parts, `scale` of which make a unit; so a code's size, times the scale, is the code's value in parts
--   rounds         the relation between an exact result and the code that it is rounded to, as the standard words it
--   rounded        the code itself, worked out from the greatest code that is not above the exact result
-- Assumes nothing. A scale of 0 would make no sense: the theorems ask for a scale above 0, which products and sums have.
use Rattle.std.specs.Prelude.{◌≡◌, ℕ, zero, suc, ◌+◌, ◌-◌, ◌*◌, ◌%◌, ◌<◌, ◌≤◌, Bool, cond, ◌⊎◌, ◌==◌, nat_le, nat_lt, Result, MatchResult}
use Rattle.codes.specs.Operations.{within}
use Rattle.half.specs.Formats.{Format, size, Exact, exact_product, exact_sum}
use Rattle.half.specs.declared.mode.Mode.{Mode}
use Rattle.half.specs.declared.mode.Mode.TheVariants.{TowardZero, Nearest, Up}
use Rattle.half.specs.declared.mode.UnknownMode.{UnknownMode}

-- The number of each mode.
abbrev pub mode_number : Mode → ℕ
mode_number TowardZero = 0
mode_number Nearest = 1
mode_number Up = 2

-- What a number is read as: the mode that has it; no mode has a number above 2.
abbrev pub Decodes : ℕ → Result Mode UnknownMode → Type 0
Decodes number r = MatchResult r (λ m. mode_number m ≡ number) (λ e. (e.0 ≡ number) × (2 < number))

-- A code's value in the parts of an exact result.
abbrev pub value : Format → Exact → ℕ → ℕ
value F e c = size F c * e.scale

-- Toward zero: the greatest code up to top whose value is not above the exact result.
pub record RoundsTowardZero (F : Format) (e : Exact) (r : ℕ) : Type 0 where
  pub a_code : r ≤ F.top
  pub not_above : value F e r ≤ e.parts
  pub greatest : (c : ℕ) → c ≤ F.top → value F e c ≤ e.parts → c ≤ r

-- Up: the least code up to top whose value is not below the exact result, or top + 1 where there is none.
pub record RoundsUp (F : Format) (e : Exact) (r : ℕ) : Type 0 where
  pub a_code : r ≤ F.top + 1
  pub not_below : r ≤ F.top → e.parts ≤ value F e r
  pub least : (c : ℕ) → c ≤ F.top → e.parts ≤ value F e c → r ≤ c

-- How far two numbers are apart.
abbrev pub apart : ℕ → ℕ → ℕ
apart m n = (m - n) + (n - m)

-- To nearest: no code up to top + 1 is nearer, a code that is as near as another is even, and above the value of
-- top + 1 the result is top + 1.
pub record RoundsToNearest (F : Format) (e : Exact) (r : ℕ) : Type 0 where
  pub a_code : r ≤ F.top + 1
  pub nearest : (c : ℕ) → c ≤ F.top + 1 → apart (value F e r) e.parts ≤ apart (value F e c) e.parts
  pub tie : (c : ℕ) → c ≤ F.top + 1 → apart (value F e r) e.parts ≡ apart (value F e c) e.parts → (c ≡ r) ⊎ (r % 2 ≡ 0)
  pub past : value F e (F.top + 1) < e.parts → r ≡ F.top + 1

-- The relation of each mode.
abbrev pub Rounds : Format → Mode → Exact → ℕ → Type 0
Rounds F TowardZero e r = RoundsTowardZero F e r
Rounds F Nearest e r = RoundsToNearest F e r
Rounds F Up e r = RoundsUp F e r

-- The greatest number up to n of which the test holds, or 0.
unfoldable pub last_of : (ℕ → Bool) → ℕ → ℕ
last_of holds zero = zero
last_of holds (suc n) = cond (holds (suc n)) (suc n) (last_of holds n)

-- The greatest code up to top whose value is not above the exact result.
unfoldable pub floor : Format → Exact → ℕ
floor F e = last_of (λ c. nat_le (value F e c) e.parts) F.top

-- The nearer of c and c + 1, or of two equally near ones the even one: the exact result, doubled, against the sum of the two values.
abbrev pub nearer : Format → Exact → ℕ → ℕ
nearer F e c =
    cond (nat_lt (2 * e.parts) (value F e c + value F e (c + 1))) c
    (cond (nat_lt (value F e c + value F e (c + 1)) (2 * e.parts)) (c + 1) (c + c % 2))

-- c where it is the exact result, and otherwise c + 1.
abbrev pub above : Format → Exact → ℕ → ℕ
above F e c = cond (value F e c == e.parts) c (c + 1)

-- The code that an exact result is rounded to.
unfoldable pub rounded : Format → Mode → Exact → ℕ
rounded F TowardZero e = floor F e
rounded F Nearest e = nearer F e (floor F e)
rounded F Up e = above F e (floor F e)

-- The rounded product of two codes; an argument above top gives top + 1.
abbrev pub product : Format → Mode → ℕ → ℕ → ℕ
product F m a b = within F.top a b (rounded F m (exact_product F a b))

-- The rounded sum of two codes; an argument above top gives top + 1.
abbrev pub sum : Format → Mode → ℕ → ℕ → ℕ
sum F m a b = within F.top a b (rounded F m (exact_sum F a b))

-- What the inner steps of a half operation promise, in whole numbers.
--   significand   a code's fraction, with the one bit above it unless the exponent is 0
--   shift         how often a significand is doubled to make a size, or the digits of an exact result to make its parts
--   digits        the whole number that an exact result is held by: digits × 2^shift parts, 2^24 of which make a unit
--   last place    the lowest bit of the digits that is kept when they are rounded
-- Assumes nothing.
use Rattle.std.specs.Prelude.{◌≡◌, ℕ, ◌+◌, ◌-◌, ◌*◌, ◌%◌, ◌^◌, ◌<◌, ◌≤◌, cond, ◌==◌, nat_lt}
use Rattle.half.specs.Formats.{Format, half, size, Exact}
use Rattle.half.specs.declared.mode.Mode.{Mode}
use Rattle.half.specs.declared.mode.Mode.TheVariants.{TowardZero, Nearest, Up}

-- A half code up to top taken apart into significand and shift.
pub record Parted (code significand shift : ℕ) : Type 0 where
  pub whole : size half code ≡ significand * 2 ^ shift
  pub narrow : significand < 2048
  pub low : shift ≤ 29
  pub normal : 0 < shift → 1024 ≤ significand

-- digits × 2^shift stands for an exact result.
pub record StandsFor (e : Exact) (digits shift : ℕ) : Type 0 where
  pub scaled : 0 < e.scale
  pub same : e.parts * 2 ^ 24 ≡ digits * 2 ^ shift * e.scale

-- How many binary digits a number of 64 bits has; 0 is given one.
pub record Length (n r : ℕ) : Type 0 where
  pub some : 1 ≤ r
  pub most : r ≤ 64
  pub holds : n < 2 ^ r
  pub needed : 1 < r → 2 ^ (r - 1) ≤ n

-- c or c + 1, where the exact result is `rest` of the way of length `step` from c to c + 1.
abbrev pub chosen : Mode → ℕ → ℕ → ℕ → ℕ
chosen TowardZero c rest step = c
chosen Nearest c rest step = cond (nat_lt (2 * rest) step) c (cond (nat_lt step (2 * rest)) (c + 1) (c + c % 2))
chosen Up c rest step = cond (rest == 0) c (c + 1)

-- The greatest result of a mode: top toward zero, and otherwise top + 1.
abbrev pub limit : Format → Mode → ℕ
limit F TowardZero = F.top
limit F Nearest = F.top + 1
limit F Up = F.top + 1

-- What is added to the digits before those below the last place are dropped, where half a step there is `half`: nothing
-- toward zero, a step less one up, and to nearest half a step, less one where the digits kept are even.
abbrev pub nudge : Mode → ℕ → ℕ → ℕ
nudge TowardZero half odd = 0
nudge Nearest half odd = half + odd - 1
nudge Up half odd = 2 * half - 1

-- Binary floating-point formats, for values from zero up.
--   code      a whole number that names a value: its lower bits are the fraction, the bits above them the exponent
--   unit      the least value above zero; every value of a format is a whole number of units
--   size      a code's value, counted in units
--   top       the greatest code of a finite value; top + 1 stands for whatever is greater
-- Assumes nothing: the definitions make sense, and the theorems hold, for any three numbers in a format.
use Rattle.std.specs.Prelude.{ℕ, ◌+◌, ◌-◌, ◌*◌, ◌/◌, ◌%◌, ◌^◌, cond, ◌==◌}

-- How many bits the fraction has, that a unit is 2 to the power of minus unit_bits, and the top code.
pub record Format : Type 0 where
  pub fraction_bits : ℕ
  pub unit_bits : ℕ
  pub top : ℕ

-- IEEE 754 binary16: ten fraction bits, units of 2^-24, and 31743 for 65504.
abbrev pub half : Format
half = record { fraction_bits = 10; unit_bits = 24; top = 31743 }

-- The lower bits of a code.
abbrev pub fraction : Format → ℕ → ℕ
fraction F c = c % 2 ^ F.fraction_bits

-- The bits of a code above its fraction.
abbrev pub exponent : Format → ℕ → ℕ
exponent F c = c / 2 ^ F.fraction_bits

-- The value of a code in units: the fraction alone where the exponent is 0, and otherwise the fraction with a one bit
-- set above it, doubled once for each step of the exponent past 1.
unfoldable pub size : Format → ℕ → ℕ
size F c = cond (exponent F c == 0) (fraction F c) ((2 ^ F.fraction_bits + fraction F c) * 2 ^ (exponent F c - 1))

-- An exact result: so many parts, of which `scale` make one unit.
pub record Exact : Type 0 where
  pub parts : ℕ
  pub scale : ℕ

-- The exact product of two values: sizes a and b make a × b parts of 2^unit-bits to a unit.
abbrev pub exact_product : Format → ℕ → ℕ → Exact
exact_product F a b = record { parts = size F a * size F b; scale = 2 ^ F.unit_bits }

-- The exact sum of two values: whole units.
abbrev pub exact_sum : Format → ℕ → ℕ → Exact
exact_sum F a b = record { parts = size F a + size F b; scale = 1 }

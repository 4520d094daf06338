-- What the ends of a window mean, as decimal numbers.
--   unit    the least half value above zero; every half value is a whole number of them, and 16777216 (2^24) make one
--   whole   the digits of the whole part, without leading zeros
--   rest    the units that are left; each further digit takes tenfold what is left, until nothing is: no more than 24 digits, and
--           the last of them is not 0
-- Assumes nothing.
use Rattle.std.specs.Prelude.{◌≡◌, ℕ, zero, suc, ◌+◌, ◌*◌, ◌/◌, ◌%◌, ◌^◌, cond, List, [], ◌∷◌, ◌++◌, length, codes, decimal, ◌==◌, nat_le}
use Rattle.half.specs.Formats.{half, size}
use Rattle.commands.specs.declared.value.End.{End}
use Rattle.commands.specs.Numbers.{spells}

-- The digits of a rest, at most k of them.
unfoldable pub digits_of : ℕ → ℕ → List ℕ
digits_of zero rest = []
digits_of (suc k) rest = cond (rest == 0) [] ((48 + rest * 10 / 16777216) ∷ digits_of k (rest * 10 % 16777216))

-- The decimal number of a size in units: its whole part, and where there is a rest a point (byte 46) and its digits.
abbrev pub exact : ℕ → List ℕ
exact n = cond (n % 16777216 == 0) (decimal (n / 16777216)) (decimal (n / 16777216) ++ (46 ∷ digits_of 24 (n % 16777216)))

-- A half code as the value that it names, or `over` past the top.
abbrev pub half_value : ℕ → List ℕ
half_value code = cond (nat_le code 31743) (exact (size half code)) (codes "over")

-- An end of a window: a count as it is, or a half code.
abbrev pub end_text : End → List ℕ
end_text (End.Count n) = decimal n
end_text (End.Half code) = half_value code

-- The last of some digits, or d where there is none.
abbrev pub last_digit : ℕ → List ℕ → ℕ
last_digit d [] = d
last_digit d (b ∷ bs) = last_digit b bs

-- The digits of a rest are exact, and none is needless: what they spell, over 10 to the power of their number, is the rest
-- over the units of one; and the last is not 0 (byte 48).
pub record ExactDigits (rest : ℕ) : Type 0 where
  pub exactly : spells 0 (digits_of 24 rest) * 16777216 ≡ rest * 10 ^ length (digits_of 24 rest)
  pub needed : last_digit 49 (digits_of 24 rest) ≡ 48 → ⊥

-- So are those of every half code.
abbrev pub ExactEnd : End → Type 0
ExactEnd (End.Count n) = Unit {0}
ExactEnd (End.Half code) = ExactDigits (size half code % 16777216)

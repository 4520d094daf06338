-- What an operation on codes is.
-- A code is a whole number from 0 to the top code of its drive; "over" is top + 1, which no line can have.
-- Assumes nothing.
use Rattle.std.specs.Prelude.{ℕ, ◌+◌, ◌≤◌, min, max, cond, ◌&&◌, leb}

-- The answer "over" of a drive with this top code.
abbrev pub over : ℕ → ℕ
over top = top + 1

-- The exact result r of the arguments a and b as a code: over where an argument is above top or r is, else r.
abbrev pub within : ℕ → ℕ → ℕ → ℕ → ℕ
within top a b r = cond (leb a top && leb b top) (min r (over top)) (over top)

-- The law of operations: if neither argument falls, the result does not fall.
abbrev pub Rises : (ℕ → ℕ → ℕ) → Type 0
Rises f = (a a' b b' : ℕ) → a ≤ a' → b ≤ b' → f a b ≤ f a' b'

-- The later of two codes: the greater one, at any top.
abbrev pub later : ℕ → ℕ → ℕ → ℕ
later top a b = within top a b (max a b)

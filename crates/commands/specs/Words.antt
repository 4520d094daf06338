-- The words of a line.
--   line     the bytes of one line, without the byte 10 that ends it
--   piece    what stands between two spaces (byte 32), or before the first, or after the last; it may be empty
--   word     a piece that is not empty; every byte but a space may stand in one, a tab too
-- Assumes nothing.
use Rattle.std.specs.Prelude.{ℕ, cond, List, [], ◌∷◌, ◌==◌}

-- The pieces with one more byte at the start of the first.
abbrev pub onto : ℕ → List (List ℕ) → List (List ℕ)
onto b [] = (b ∷ []) ∷ []
onto b (p ∷ ps) = (b ∷ p) ∷ ps

-- The pieces of a line.
unfoldable pub pieces : List ℕ → List (List ℕ)
pieces [] = [] ∷ []
pieces (b ∷ bs) = cond (b == 32) ([] ∷ pieces bs) (onto b (pieces bs))

-- Those that are not empty.
unfoldable pub filled : List (List ℕ) → List (List ℕ)
filled [] = []
filled ([] ∷ ps) = filled ps
filled ((b ∷ bs) ∷ ps) = (b ∷ bs) ∷ filled ps

-- The words of a line, in their order.
abbrev pub words : List ℕ → List (List ℕ)
words line = filled (pieces line)

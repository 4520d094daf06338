-- Cutting an exact result down to a drive's codes keeps the law of operations. Assumes nothing.
use Rattle.std.specs.Prelude.{ℕ, ◌≤◌}
use Rattle.std.proofs.Common.{rules}
use Rattle.codes.specs.Operations.{within}

-- If neither the arguments nor the exact result fall, the code does not fall.
pub within_rises : (top a a' b b' r r' : ℕ) → a ≤ a' → b ≤ b' → r ≤ r' → within top a b r ≤ within top a' b' r'
within_rises top a a' b b' r r' ha hb hr = search rules

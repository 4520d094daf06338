-- Bytes added to a text that stands at the start of a memory.
-- Assumes nothing.
use Rattle.std.specs.Prelude.{◌≡◌, ℕ, ◌+◌, ◌≤◌, List, ◌++◌, length, take, drop}

-- After the first `at` bytes stands the text, which ends at `end`; what was before it and after it is as it was.
pub record Adds (old : List ℕ) (at : ℕ) (text new : List ℕ) (end : ℕ) : Type 0 where
  pub ends : end ≡ at + length text
  pub within : end ≤ length old
  pub size : length new ≡ length old
  pub bytes : new ≡ take at old ++ (text ++ drop end old)

-- Which ticket is taken.
--   innermost   of the sheet's own number, and as deep as there are open tries
-- Assumes nothing.
use Rattle.std.specs.Prelude.{◌≡◌, ℕ, ◌<◌, length}
use Rattle.law.specs.Sheets.{Model}

-- A ticket of this number and depth is the innermost one of the sheet s, whose number is id.
pub record Innermost (id : ℕ) (s : Model) (number depth : ℕ) : Type 0 where
  pub own : number ≡ id
  pub deepest : depth ≡ length s.saved
  pub real : 0 < depth

-- Tries as the sheet keeps them: a mark for each, the outermost first.
-- Assumes nothing.
use Rattle.std.specs.Prelude.{ℕ, ◌≤◌, List, map, slice_index_or}
use Rattle.tables.specs.declared.mark.Mark.{Mark}

-- How many rules each mark brings back.
abbrev pub counts : List Mark → List ℕ
counts ms = map (λ (m : Mark). m.rules) ms

-- The marks' numbers of rules, followed by that of the sheet, which is n, do not fall.
abbrev pub Nested : ℕ → List Mark → Type 0
Nested n ms = (i j : ℕ) → i ≤ j → slice_index_or (counts ms) i n ≤ slice_index_or (counts ms) j n

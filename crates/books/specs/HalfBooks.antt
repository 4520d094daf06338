-- The half books: drive number 0, top 31743, kinds 2 to 5, one book for each rounding direction.
--   mode      the rounding direction of a book's products and sums: 0 toward zero, 1 to nearest, 2 up
--   lines     how many lines a rule of a kind names, told by the kind's number
--   meets     what the codes of those lines have to be to each other, told by the mode and the kind's number
--   fault     why a half book is not made
-- Assumes nothing.
use Rattle.std.specs.Prelude.{ℕ, List}
use Rattle.half.specs.Formats.{half}
use Rattle.half.specs.Roundings.{product, sum}
use Rattle.half.specs.declared.mode.Mode.{Mode}
use Rattle.books.specs.declared.half_book.BookFault.{BookFault}
use Rattle.books.specs.declared.half_book.BookFault.TheVariants.{NoMode}
use Rattle.windows.specs.Meanings.{Meaning}
use Rattle.books.specs.Kinds.{among, counted, lines_of, MeetsOf, two_to_five}

-- Of a kind that the book has not got, 0.
abbrev pub half_lines : ℕ → ℕ
half_lines kind = lines_of (among two_to_five kind)

-- Travel by the half product and sum by the half sum, both rounded in this mode, later by the greater code up to 31743,
-- not after by the order.
abbrev pub HalfMeets : Mode → ℕ → List ℕ → Type 0
HalfMeets mode kind = MeetsOf (product half mode) (sum half mode) 31743 (among two_to_five kind)

-- Both together, up to the top code.
abbrev pub half_meaning : Mode → Meaning
half_meaning mode = record { top = 31743; arity = half_lines; related = HalfMeets mode; counts = counted two_to_five }

-- The number of the refusal.
abbrev pub fault_number : BookFault → ℕ
fault_number NoMode = 11

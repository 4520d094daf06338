-- The counter book: drive number 1, mode 0, top 65535, kinds 2 to 5.
--   lines     how many lines a rule of a kind names, told by the kind's number
--   meets     what the codes of those lines have to be to each other, told by the kind's number
-- Assumes nothing.
use Rattle.std.specs.Prelude.{ℕ, List}
use Rattle.codes.specs.Counter.{counter_product, counter_sum}
use Rattle.windows.specs.Meanings.{Meaning}
use Rattle.books.specs.Kinds.{among, counted, lines_of, MeetsOf, two_to_five}

-- Of a kind that the book has not got, 0.
abbrev pub counter_lines : ℕ → ℕ
counter_lines kind = lines_of (among two_to_five kind)

-- Travel by the counter product, sum by the counter sum, later by the greater code up to 65535, not after by the order.
abbrev pub CounterMeets : ℕ → List ℕ → Type 0
CounterMeets kind = MeetsOf counter_product counter_sum 65535 (among two_to_five kind)

-- Both together, up to the top code.
abbrev pub counter_meaning : Meaning
counter_meaning = record { top = 65535; arity = counter_lines; related = CounterMeets; counts = counted two_to_five }

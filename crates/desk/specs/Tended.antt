-- A sheet of either book with its tickets: what it means, and what it holds.
-- Assumes nothing.
use Rattle.std.specs.Prelude.{ℕ, List, vec_items}
use Rattle.windows.specs.Meanings.{Meaning}
use Rattle.law.specs.Sheets.{Model}
use Rattle.tables.specs.Views.{model}
use Rattle.commands.specs.declared.value.End.{End}
use Rattle.desk.specs.declared.held.Held.{Held}
use Rattle.desk.specs.declared.tended.Tended.{Tended}
use Rattle.books.specs.CounterBooks.{counter_meaning}
use Rattle.books.specs.HalfBooks.{half_meaning}

-- The meaning of its book.
abbrev pub meaning_of : Tended → Meaning
meaning_of (Tended.Counter c) = counter_meaning
meaning_of (Tended.Half h) = half_meaning h.sheet.book.mode

-- The number of its sheet.
abbrev pub number_of : Tended → ℕ
number_of (Tended.Counter c) = c.sheet.number
number_of (Tended.Half h) = h.sheet.number

-- The sheet.
abbrev pub model_of : Tended → Model
model_of (Tended.Counter c) = model c.sheet.tables
model_of (Tended.Half h) = model h.sheet.tables

-- Its tickets in hand.
abbrev pub hand_of : Tended → List Held
hand_of (Tended.Counter c) = vec_items c.hand
hand_of (Tended.Half h) = vec_items h.hand

-- What a code means on its sheet.
abbrev pub end_of : Tended → ℕ → End
end_of (Tended.Counter c) code = End.Count code
end_of (Tended.Half h) code = End.Half code

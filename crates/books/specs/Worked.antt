-- Worked cases of both drives.
--   product, sum   the code that a drive's operation makes of two codes
--   travel         a rule of kind 2, closed: its windows before and after, lower and upper end of each
-- Assumes nothing.
use Rattle.std.specs.Prelude.{◌≡◌, List, [], ◌∷◌}
use Rattle.codes.specs.Counter.{counter_product}
use Rattle.half.specs.Laws.{HalfCases}
use Rattle.windows.specs.Spans.{Span}
use Rattle.windows.specs.Choices.{NoChoice}
use Rattle.books.specs.CounterBooks.{CounterMeets, counter_lines}
use Rattle.books.specs.Narrowings.{Answered, Closes, Narrowing, Seen, closed, ends, no_choice, seen}

-- The product drops its remainder, and is over above the top code.
pub record CounterProducts : Type 0 where
  pub just_below_one : counter_product 1 999 ≡ 0
  pub just_one : counter_product 1 1000 ≡ 1
  pub just_top : counter_product 65535 1000 ≡ 65535
  pub just_over : counter_product 65535 1001 ≡ 65536

-- Kind 2, travel: a product that jumps over the ends, ends that only the middle reaches, and windows without a choice.
pub record CounterTravels : Type 0 where
  pub jumps : Closes 3 (CounterMeets 2) (ends 3000 3002 ∷ ends 1500 1501 ∷ ends 4502 4505 ∷ []) (ends 3000 3002 ∷ ends 1500 1501 ∷ ends 4503 4504 ∷ [])
  pub middle : Closes 3 (CounterMeets 2) (ends 3 4 ∷ ends 1000 1500 ∷ ends 5 5 ∷ []) (ends 4 4 ∷ ends 1250 1499 ∷ ends 5 5 ∷ [])
  pub empty : NoChoice (CounterMeets 2) (ends 1700 1701 ∷ ends 1900 1901 ∷ ends 3232 3232 ∷ [])

-- Whatever the counter book answers to a travel in these windows, it shows this.
abbrev pub TravelShows : List Span → Seen → Type 0
TravelShows ws what = (r : Narrowing) → Answered 65535 (counter_lines 2) (CounterMeets 2) ws r → seen r ≡ what

-- The same three travels: what the book's answer to them shows.
pub record TravelsShown : Type 0 where
  pub jumps : TravelShows (ends 3000 3002 ∷ ends 1500 1501 ∷ ends 4502 4505 ∷ []) (closed (ends 3000 3002 ∷ ends 1500 1501 ∷ ends 4503 4504 ∷ []))
  pub middle : TravelShows (ends 3 4 ∷ ends 1000 1500 ∷ ends 5 5 ∷ []) (closed (ends 4 4 ∷ ends 1250 1499 ∷ ends 5 5 ∷ []))
  pub empty : TravelShows (ends 1700 1701 ∷ ends 1900 1901 ∷ ends 3232 3232 ∷ []) no_choice

-- Four counter products, three counter travels, and the half drive's four products and two sums, each in three modes.
pub record WorkedCases : Type 0 where
  pub products : CounterProducts
  pub travels : CounterTravels
  pub halves : HalfCases

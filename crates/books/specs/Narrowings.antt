-- What a book's narrowing answers.
--   span      a window by its two ends
--   read      the windows that a kind's lines have; passed, those that it passes over
--   fit       the book has the kind, and no end of the windows read is above its top
--   closes    the windows read become the smallest box that holds every satisfying choice
--   seen      an answer by what it shows: unfit, no choice, or the spans of the closed windows
-- A kind of n lines reads the first n of three windows; a window's lower end is never above its upper one.
-- Assumes nothing.
use Rattle.std.specs.Prelude.{◌≡◌, ℕ, ◌<◌, ◌≤◌, List, [], ◌∷◌, take, drop, Some, None, Option, Ok, Err, Result}
use Rattle.boxes.specs.declared.interval.Interval.{Interval}
use Rattle.windows.specs.Spans.{Span}
use Rattle.windows.specs.Choices.{NoChoice, Smallest}
use Rattle.windows.specs.Windows.{span}
use Rattle.windows.specs.Meanings.{Meaning}
use Rattle.windows.specs.declared.window.Window.{Window}
use Rattle.boxes.specs.declared.triple.Triple.{Triple}
use Rattle.books.specs.declared.narrowing.Unfit.{Unfit}

-- The windows of three that a kind of n lines reads, and those that it passes over.
abbrev pub read : ℕ → List Span → List Span
read n ws = take n ws

abbrev pub passed : ℕ → List Span → List Span
passed n ws = drop n ws

-- Three windows by their spans.
abbrev pub spans : Triple Window → List Span
spans t = span t.a ∷ span t.b ∷ span t.c ∷ []

-- The span from lo to hi.
abbrev pub ends : ℕ → ℕ → Span
ends lo hi = record { lo = lo; hi = hi }

-- An interval of an operation, by its ends.
abbrev pub at : Interval → Span
at i = record { lo = i.lo; hi = i.hi }

-- No end of these windows is above top.
abbrev pub UpTo : ℕ → List Span → Type 0
UpTo top [] = Unit {0}
UpTo top (w ∷ ws) = (w.hi ≤ top) × UpTo top ws

-- The book has the kind, and no end that it reads is above top.
pub record Fit (top n : ℕ) (ws : List Span) : Type 0 where
  pub known : 0 < n
  pub up_to : UpTo top (read n ws)

-- The windows vs are the smallest box of those read of ws, the others as they were.
pub record Closes (n : ℕ) (R : List ℕ → Type 0) (ws vs : List Span) : Type 0 where
  pub smallest : Smallest R (read n ws) (read n vs)
  pub kept : passed n vs ≡ passed n ws

-- A narrowing answers that it is unfit, or the windows of the smallest box, or that there is no choice.
abbrev pub Narrowing : Type 0
Narrowing = Result (Option (Triple Window)) Unfit

-- Unfit for a kind that the book has not got, or an end above top among those read; none exactly where no choice lies in
-- the windows read; else the smallest box.
abbrev pub Answered : ℕ → ℕ → (List ℕ → Type 0) → List Span → Narrowing → Type 0
Answered top n R ws (Err _) = Fit top n ws → ⊥
Answered top n R ws (Ok None) = Fit top n ws × NoChoice R (read n ws)
Answered top n R ws (Ok (Some t)) = Fit top n ws × Closes n R ws (spans t)

-- The answer of a book with this meaning to a kind.
abbrev pub Answers : Meaning → ℕ → List Span → Narrowing → Type 0
Answers m kind ws r = Answered m.top (m.arity kind) (m.related kind) ws r

-- The same without a test of fitness: nothing exactly where no choice lies in the windows read, else the smallest box.
abbrev pub Closing : ℕ → (List ℕ → Type 0) → List Span → Option (Triple Window) → Type 0
Closing n R ws None = NoChoice R (read n ws)
Closing n R ws (Some t) = Closes n R ws (spans t)

-- What there is to see of an answer.
pub data Seen : Type 0 where
  unfit : Seen
  no_choice : Seen
  closed : List Span → Seen

abbrev pub seen : Narrowing → Seen
seen (Err _) = unfit
seen (Ok None) = no_choice
seen (Ok (Some t)) = closed (spans t)

-- A book with this meaning has one answer to a kind and any windows.
abbrev pub OneAnswer : Meaning → ℕ → Type 0
OneAnswer m kind = (ws : List Span) (r r' : Narrowing) → Answers m kind ws r → Answers m kind ws r' → seen r ≡ seen r'

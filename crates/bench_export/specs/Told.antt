-- A narrowing told in numbers.
--   spans     the three windows that the ends stand for: each from the lesser to the greater of its two ends
--   number    0 for unfit, 1 for none, 2 for closed
--   written   the ends after the answer: those of the closed windows, or else as they were
-- Assumes nothing.
use Rattle.std.specs.Prelude.{ℕ, List, [], ◌∷◌, ◌≡◌, Some, None, Ok, Err}
use Rattle.windows.specs.Spans.{Span}
use Rattle.windows.specs.Windows.{spanning}
use Rattle.windows.specs.Meanings.{Meaning}
use Rattle.books.specs.Narrowings.{Answers, Narrowing}
use Rattle.bench_export.specs.Pairs.{pair}
use Rattle.bench_export.specs.declared.ends.Ends.{Ends}

abbrev pub spans_of : Ends → List Span
spans_of e = spanning e.a.lo e.a.hi ∷ spanning e.b.lo e.b.hi ∷ spanning e.c.lo e.c.hi ∷ []

abbrev pub number : Narrowing → ℕ
number (Err _) = 0
number (Ok None) = 1
number (Ok (Some t)) = 2

abbrev pub written : Narrowing → Ends → Ends
written (Err _) e = e
written (Ok None) e = e
written (Ok (Some t)) e = record { a = pair t.a; b = pair t.b; c = pair t.c }

-- Some answer of a book with this meaning to the windows is told by the number and by the ends that are left.
pub record Told (m : Meaning) (kind : ℕ) (before after : Ends) (r : ℕ) : Type 0 where
  pub answer : Narrowing
  pub answered : Answers m kind (spans_of before) answer
  pub numbers : r ≡ number answer
  pub leaves : after ≡ written answer before

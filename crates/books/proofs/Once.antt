-- A narrowing has one answer. Assumes nothing.
use Rattle.std.proofs.Common.{◌≡◌, ℕ, Some, None, Ok, Err, List, ◌++◌, sym, refl, ap, ◌∙◌, ap₂, take-append-drop}
use Rattle.windows.specs.Spans.{Span}
use Rattle.windows.specs.Choices.{NoChoice}
use Rattle.windows.proofs.Smallest.{smallest_unique}
use Rattle.windows.specs.Meanings.{Meaning}
use Rattle.books.specs.Narrowings.{Answered, Closes, Fit, Narrowing, OneAnswer, seen, closed, no_choice, spans, read}

-- Two boxes that close the same windows are the same.
closes_once : (n : ℕ) (R : List ℕ → Type 0) (ws us vs : List Span) → Closes n R ws us → Closes n R ws vs → us ≡ vs
closes_once n R ws us vs p q =
    sym (take-append-drop n us)
    ∙ ap₂ ◌++◌ (smallest_unique R (read n ws) (read n us) (read n vs) p.smallest q.smallest) (p.kept ∙ sym q.kept)
    ∙ take-append-drop n vs

-- Two answers to the same windows are the same, for any number of lines and any relation on their codes.
pub answered_once : (top n : ℕ) (R : List ℕ → Type 0) (ws : List Span) (r r' : Narrowing) → Answered top n R ws r → Answered top n R ws r' → seen r ≡ seen r'
answered_once top n R ws (Err _) (Err _) p q = refl
answered_once top n R ws (Err _) (Ok None) p q = absurd (p q.0)
answered_once top n R ws (Err _) (Ok (Some t)) p q = absurd (p q.0)
answered_once top n R ws (Ok None) (Err _) p q = absurd (q p.0)
answered_once top n R ws (Ok None) (Ok None) p q = refl
answered_once top n R ws (Ok None) (Ok (Some t)) p q = absurd (p.1 _ q.1.smallest.some)
answered_once top n R ws (Ok (Some t)) (Err _) p q = absurd (q p.0)
answered_once top n R ws (Ok (Some t)) (Ok None) p q = absurd (q.1 _ p.1.smallest.some)
answered_once top n R ws (Ok (Some t)) (Ok (Some u)) p q = ap closed (closes_once n R ws (spans t) (spans u) p.1 q.1)

-- So are two answers of a book to the same kind and windows.
pub one_answer : (m : Meaning) (kind : ℕ) → OneAnswer m kind
one_answer m kind = answered_once m.top (m.arity kind) (m.related kind)

-- An answer to windows that fit and that a box closes shows that box.
pub shows_box : (top n : ℕ) (R : List ℕ → Type 0) (ws vs : List Span) → Fit top n ws → Closes n R ws vs → (r : Narrowing) → Answered top n R ws r → seen r ≡ closed vs
shows_box top n R ws vs fit box (Err _) p = absurd (p fit)
shows_box top n R ws vs fit box (Ok None) p = absurd (p.1 _ box.smallest.some)
shows_box top n R ws vs fit box (Ok (Some t)) p = ap closed (closes_once n R ws (spans t) vs p.1 box)

-- An answer to windows that fit and have no choice says so.
pub shows_none : (top n : ℕ) (R : List ℕ → Type 0) (ws : List Span) → Fit top n ws → NoChoice R (read n ws) → (r : Narrowing) → Answered top n R ws r → seen r ≡ no_choice
shows_none top n R ws fit none (Err _) p = absurd (p fit)
shows_none top n R ws fit none (Ok None) p = refl
shows_none top n R ws fit none (Ok (Some t)) p = absurd (none _ p.1.smallest.some)

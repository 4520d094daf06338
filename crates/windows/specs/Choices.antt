-- Satisfying choices, and the smallest box that holds them all.
-- A rule's windows are a list, one window for each line that the rule names; its relation R speaks of as many codes.
-- Assumes nothing.
use Rattle.std.specs.Prelude.{◌≡◌, ℕ, ◌<◌, List, length, get_or, slice_index_or}
use Rattle.windows.specs.Spans.{Span, Each, nowhere}

-- A satisfying choice: a code from each window, in the relation.
pub record Choice (R : List ℕ → Type 0) (ws : List Span) (xs : List ℕ) : Type 0 where
  pub each : Each ws xs
  pub related : R xs

-- No satisfying choice lies in the windows.
abbrev pub NoChoice : (List ℕ → Type 0) → List Span → Type 0
NoChoice R ws = (xs : List ℕ) → Choice R ws xs → ⊥

-- The code x, at place i, belongs to some satisfying choice in the windows.
pub record Supported (R : List ℕ → Type 0) (ws : List Span) (i x : ℕ) : Type 0 where
  pub codes : List ℕ
  pub choice : Choice R ws codes
  pub here : get_or codes i 0 ≡ x

-- The ends of the window w, at place i, belong to satisfying choices in the windows ws.
pub record EndsSupported (R : List ℕ → Type 0) (ws : List Span) (i : ℕ) (w : Span) : Type 0 where
  pub lower : Supported R ws i w.lo
  pub upper : Supported R ws i w.hi

-- vs is the smallest box that holds every satisfying choice in ws, of which there is one:
-- no choice is lost, and each end of each window of vs belongs to some.
pub record Smallest (R : List ℕ → Type 0) (ws vs : List Span) : Type 0 where
  pub same : length vs ≡ length ws
  pub codes : List ℕ
  pub some : Choice R ws codes
  pub holds : (xs : List ℕ) → Choice R ws xs → Each vs xs
  pub ends : (i : ℕ) → i < length vs → EndsSupported R ws i (slice_index_or vs i nowhere)

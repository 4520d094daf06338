-- A sheet with the tickets of its open tries.
--   held      a ticket in hand, with its place among all tickets that the desk answered
--   in step   there is just one ticket in hand for each open try of the sheet: of the sheet's number, and of the depths 1, 2, 3 and
--             so on, the outermost first; so that the last one is always innermost
-- Assumes nothing.
use Rattle.std.specs.Prelude.{◌≡◌, ℕ, ◌+◌, ◌<◌, ◌≤◌, List, length, Some, None, Option, ◌≢◌, slice_index_or}
use Rattle.windows.specs.Meanings.{Meaning}
use Rattle.law.specs.declared.calls.Call.{Call}
use Rattle.law.specs.Sheets.{Model}
use Rattle.law.specs.Sound.{Sound}
use Rattle.sheet.specs.Answers.{named}
use Rattle.desk.specs.declared.held.Held.{Held}
use Rattle.desk.specs.declared.folder.calls.Plain.{Plain}

-- The tickets are of the sheet of this number, and of the depths 1, 2, 3 and so on.
abbrev pub Stacked : ℕ → List Held → Type 0
Stacked id hand = (k : ℕ) (h : Held) → k < length hand → ((slice_index_or hand k h).ticket.number ≡ id) × ((slice_index_or hand k h).ticket.depth ≡ k + 1)

-- The tickets in hand are those of the open tries of the sheet s of this number, which is sound; there is room for eight.
pub record Agrees (m : Meaning) (id : ℕ) (s : Model) (hand : List Held) (room : ℕ) : Type 0 where
  pub sound : Sound m s
  pub stacked : Stacked id hand
  pub each : length hand ≡ length s.saved
  pub roomy : 8 ≤ room

-- The same, as a fact that a folder carries.
abbrev pub InStep : Meaning → ℕ → Model → List Held → ℕ → Type 0
InStep m id s hand room = ∥ Agrees m id s hand room ∥₁

-- The call that a plain call is.
abbrev pub call_of : Plain → Call
call_of (Plain.Line lo hi) = Call.Line lo hi
call_of (Plain.Rule kind a b c) = Call.Rule (named kind a b c)
call_of (Plain.Pinch line lo hi) = Call.Pinch line lo hi
call_of (Plain.Settle n) = Call.Settle n

-- A ticket of this place is found at i, or none is in hand.
abbrev pub Found : List Held → ℕ → Option ℕ → Type 0
Found hand place None = (k : ℕ) (h : Held) → k < length hand → (slice_index_or hand k h).place ≢ place
Found hand place (Some i) = (i < length hand) × ((h : Held) → (slice_index_or hand i h).place ≡ place)

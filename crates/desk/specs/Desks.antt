-- The desk: its sheets, the last of which is the present one.
-- Assumes nothing.
use Rattle.std.specs.Prelude.{◌≡◌, ℕ, ◌-◌, ◌<◌, List, length, Some, None, Option, ◌≢◌, slice_index_or}
use Rattle.desk.specs.declared.tended.Tended.{Tended}
use Rattle.desk.specs.Tended.{model_of, number_of}

-- A sheet of this number is at i, or there is none.
abbrev pub Seated : List Tended → ℕ → Option ℕ → Type 0
Seated ts number None = (k : ℕ) (t : Tended) → k < length ts → number_of (slice_index_or ts k t) ≢ number
Seated ts number (Some i) = (i < length ts) × ((t : Tended) → number_of (slice_index_or ts i t) ≡ number)

-- No sheet of this number has an open try.
abbrev pub Clear : ℕ → List Tended → Type 0
Clear number ts = (k : ℕ) (t : Tended) → k < length ts → number_of (slice_index_or ts k t) ≡ number → length (model_of (slice_index_or ts k t)).saved ≡ 0

-- The present sheet is of this number.
abbrev pub Present : ℕ → List Tended → Type 0
Present number ts = (0 < length ts) × ((t : Tended) → number_of (slice_index_or ts (length ts - 1) t) ≡ number)

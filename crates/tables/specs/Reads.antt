-- Reading a line's window.
-- Assumes nothing.
use Rattle.std.specs.Prelude.{◌≡◌, ℕ, true, false, length, Ok, Err, Result}
use Rattle.law.specs.declared.calls.Refusal.{Refusal}
use Rattle.law.specs.Sheets.{Model, window}
use Rattle.law.specs.Table.{no_line}
use Rattle.windows.specs.Windows.{span}
use Rattle.windows.specs.declared.window.Window.{Window}

-- Reading the window of line k: refused where there is no such line, else the window as it is.
abbrev pub Read : Model → ℕ → Result Window Refusal → Type 0
Read s k (Ok w) = (no_line (length s.core.windows) k ≡ false) × (span w ≡ window s.core.windows k)
Read s k (Err why) = (no_line (length s.core.windows) k ≡ true) × (why ≡ Refusal.NoLine)

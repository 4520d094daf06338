-- Windows as the code holds them, by their spans.
-- Assumes nothing.
use Rattle.std.specs.Prelude.{ℕ, min, max, cond, Some, None, Option, nat_le}
use Rattle.windows.specs.Spans.{Span}
use Rattle.windows.specs.declared.window.Window.{Window}

-- The two ends of a window.
abbrev pub span : Window → Span
span w = record { lo = w.lo; hi = w.hi }

-- The window from lo to hi, or none where the lower end is above the upper.
abbrev pub spanned : ℕ → ℕ → Option Span
spanned lo hi = cond (nat_le lo hi) (Some (record { lo = lo; hi = hi })) None

-- The ends of a window that holds one code.
abbrev pub single : ℕ → Span
single code = record { lo = code; hi = code }

-- The ends of the window from the lesser to the greater of two codes.
abbrev pub spanning : ℕ → ℕ → Span
spanning x y = record { lo = min x y; hi = max x y }

-- Intervals by their ends.
-- Assumes nothing.
use Rattle.std.specs.Prelude.{ℕ, cond, ◌&&◌, Some, None, Option, nat_le, nat_lt}
use Rattle.boxes.specs.declared.interval.Interval.{Interval}

-- The lower and the upper end.
abbrev pub ends : Interval → ℕ × ℕ
ends w = (w.lo, w.hi)

-- The ends lo and hi, or nothing where lo is above hi or hi is not below 2,147,483,647.
abbrev pub spanned : ℕ → ℕ → Option (ℕ × ℕ)
spanned lo hi = cond (nat_le lo hi && nat_lt hi 2147483647) (Some (lo, hi)) None

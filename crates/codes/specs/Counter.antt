-- The arithmetic of the counter drive: whole counts, a product short by a factor of 1000.
-- Assumes nothing.
use Rattle.std.specs.Prelude.{ℕ, ◌+◌, ◌*◌, ◌/◌}
use Rattle.codes.specs.Operations.{within}

-- The counter drive's top code.
abbrev pub counter_top : ℕ
counter_top = 65535

-- a × b divided by 1000, the remainder dropped.
abbrev pub counter_product : ℕ → ℕ → ℕ
counter_product a b = within counter_top a b (a * b / 1000)

-- a + b.
abbrev pub counter_sum : ℕ → ℕ → ℕ
counter_sum a b = within counter_top a b (a + b)

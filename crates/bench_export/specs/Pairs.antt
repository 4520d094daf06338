-- The two ends of a window, as C sees them. Assumes nothing.
use Rattle.windows.specs.declared.window.Window.{Window}
use Rattle.bench_export.specs.declared.ends.Pair.{Pair}

abbrev pub pair : Window → Pair
pair w = record { lo = w.lo; hi = w.hi }

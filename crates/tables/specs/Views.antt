-- The sheet of the definitions that the tables hold.
-- Assumes nothing.
use Rattle.std.specs.Prelude.{List, map, reverse, take, vec_items}
use Rattle.windows.specs.Windows.{span}
use Rattle.runs.specs.Snapshots.{kept}
use Rattle.law.specs.declared.calls.Rule.{Rule}
use Rattle.law.specs.Sheets.{Core, Model}
use Rattle.tables.specs.declared.mark.Mark.{Mark}
use Rattle.tables.specs.declared.tables.Tables.{Tables}

-- The core that a mark brings back, of a sheet that has these rules now.
abbrev pub found : List Rule → Mark → Core
found rules m = record { state = m.state; windows = map span (kept m.lines); rules = take m.rules rules }

-- What the sheet holds.
abbrev pub core : Tables → Core
core t = record { state = t.state; windows = map span (vec_items t.lines.windows); rules = vec_items t.rules.items }

-- The sheet: its core, and the cores found by the opens of its tries, innermost first.
abbrev pub model : Tables → Model
model t = record { core = core t; saved = reverse (map (found (vec_items t.rules.items)) (vec_items t.tries)) }

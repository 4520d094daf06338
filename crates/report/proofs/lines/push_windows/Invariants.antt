-- The lines of the windows so far stand after what was there, each of no more than 15 bytes.
use Rattle.std.proofs.Common.{◌≡◌, ◌+◌, ◌*◌, ◌≤◌, map, take}
use Rattle.windows.specs.Windows.{span}
use Rattle.report.specs.Adding.{Adds}
use Rattle.report.specs.Report.{rows}
use Rattle.report.proofs.lines.push_windows.Given as goal

abbrev pub invariant-loop-i : goal.invariant-loop-i
invariant-loop-i l =
    Adds l.initial.text.memory.now l.initial.text.len (rows 1 (map span (take l.i l.windows))) l.text.memory.now l.text.len
    × (l.text.len ≤ l.initial.text.len + 15 * l.i)
    × (l.text.memory.ghost_name ≡ l.initial.text.memory.ghost_name)

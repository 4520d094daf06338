-- The lines so far are written.
use Rattle.std.proofs.Common.{map, take}
use Rattle.std.specs.Fmt.{HasWritten, IsPlainFormatter}
use Rattle.windows.specs.Windows.{span}
use Rattle.commands.specs.Prints.{rows}
use Rattle.commands.proofs.print.RowsDisplay.fmt.Given as goal

abbrev pub invariant-loop-i : goal.invariant-loop-i
invariant-loop-i g l =
    IsPlainFormatter l.initial.f → HasWritten g.W.Write.write_str_gives l.initial.f (rows 1 (map span (take l.i l.window-items))) l.f

use Rattle.std.proofs.Common.{refl, ◌∙◌, arith}
use Rattle.report.specs.Report.{rows}
use Rattle.report.proofs.Adding.{adds_none, adds_then}
use Rattle.report.proofs.Rows.{printable_at, rows_more}
use Rattle.report.proofs.lines.push_windows.Goals as goal

pub loop-i-init : goal.loop-i-init
unfolding rows
loop-i-init c = (adds_none _ _ (omega arith), omega arith, refl)

pub push_window-requires-clause-codes : goal.push_window-requires-clause-codes
push_window-requires-clause-codes c = rw c.index-windows-i.is (printable_at c.args.windows.now c.loop-i.i c.index-windows-i.result (omega arith) c.requires.printable)

pub loop-i-preserved : goal.loop-i-preserved
loop-i-preserved c = (
  rw (rows_more c.args.windows.now c.loop-i.i c.index-windows-i.result (omega arith), ← c.index-windows-i.is) (adds_then c.loop-i.invariant.0 c.push_window.ensures.line),
  omega (arith, c.loop-i.invariant.1, c.push_window.ensures.short),
  c.push_window.ensures.same_memory ∙ c.loop-i.invariant.2,
)

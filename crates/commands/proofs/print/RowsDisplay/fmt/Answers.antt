use Rattle.std.proofs.Common.{◌+◌, arith, rules}
use Rattle.std.specs.Fmt.{HasWritten}
use Rattle.std.proofs.lemmas.Grind.{put_two}
use Rattle.windows.specs.Windows.{span}
use Rattle.commands.specs.Prints.{row, rows}
use Rattle.commands.proofs.Texts.{rows_more}
use Rattle.commands.proofs.print.RowsDisplay.fmt.Goals as goal

pub loop-i-init : goal.loop-i-init
unfolding rows
loop-i-init g c = search rules

pub loop-i-preserved : goal.loop-i-preserved
loop-i-preserved g c =
    λ p. let before = c.loop-i.invariant p in
    let here : HasWritten g.W.Write.write_str_gives c.loop-i.f (row (c.loop-i.i + 1) (span c.window-item.result)) c.writeln.new.self = search rules in
    put_two _ _ _ _ _ _ _ before here
    (rows_more c.args.self.now.0.now c.loop-i.i 1 (c.loop-i.i + 1) c.window-item.result (omega arith) (omega arith) c.window-item.is)

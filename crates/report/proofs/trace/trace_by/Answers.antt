use Rattle.std.proofs.Common.{map}
use Rattle.windows.specs.Meanings.{Meaning}
use Rattle.windows.specs.Windows.{span}
use Rattle.tables.specs.Views.{model}
use Rattle.stored.specs.Loads.{loads}
use Rattle.report.specs.Concluding.{Concluded, Concludes}
use Rattle.report.specs.Traces.{Comes}
use Rattle.report.proofs.Traces.{reported_as}
use Rattle.report.proofs.trace.trace_by.Goals as goal

-- the report of what the load and the settle come to
pub returns : goal.returns
returns g c =
    let m : Meaning = g.B.Book.meaning c.args.book in
    let vs = (model c.conclude-outcome.new.loaded.sheet.tables).core.windows in
    let by : Concludes m 0 (model c.load_in-loaded.result.sheet.tables) c.load_in-loaded.result.fault c.conclude-outcome.result vs =
    rw (c.load_in-loaded.ensures.number, c.load_in-loaded.ensures.book) at c.conclude-outcome.ensures in
    let concluded : Concluded m (loads m 0 g.B.Book.DRIVE (g.B.Book.mode c.args.book) c.args.input.now) c.conclude-outcome.result vs =
    by g.B.Book.DRIVE (g.B.Book.mode c.args.book) c.args.input.now c.load_in-loaded.ensures.loaded in
    reported_as {Is = Comes m (loads m 0 g.B.Book.DRIVE (g.B.Book.mode c.args.book) c.args.input.now)} c.conclude-outcome.result (map span c.all_windows.result.now) vs c.args.output.now _ _
    c.all_windows.ensures concluded.comes concluded.prints c.requires c.write_report.ensures.bytes c.write_report.ensures.count c.write_report.ensures.short

use Rattle.std.proofs.Common.{Ok, subst, arith}
use Rattle.report.specs.Picks.{Picks}
use Rattle.report.specs.Traces.{by_counter, by_half, written}
use Rattle.report.proofs.Traces.{none_written, reported_more}
use Rattle.report.proofs.trace.trace_with.Goals as goal

-- no book fits
pub returns-in-Err-clause-ok : goal.returns-in-Err-clause-ok
returns-in-Err-clause-ok g c =
    none_written c.in-Err.fault c.into.result (omega arith) c.in-Err.ensures c.into.ensures
    c.write_report.ensures.bytes c.write_report.ensures.count c.write_report.ensures.short

-- the half book of the mode
pub returns-in-Half-clause-ok : goal.returns-in-Half-clause-ok
returns-in-Half-clause-ok g c =
    let fits = subst (λ book. Picks c.args.input.now (Ok book)) c.in-Half.is c.in-Ok.ensures in
    written (omega arith) (reported_more (λ o vs is. by_half c.in-Half.book.mode fits.0 fits.1 is) c.trace_by.ensures)

-- the counter book
pub returns-in-Counter-clause-ok : goal.returns-in-Counter-clause-ok
returns-in-Counter-clause-ok g c =
    let fits = subst (λ book. Picks c.args.input.now (Ok book)) c.in-Counter.is c.in-Ok.ensures in
    written (omega arith) (reported_more (λ o vs is. by_counter fits.0 fits.1 is) c.trace_by-in-Counter.ensures)

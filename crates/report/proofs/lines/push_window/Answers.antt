use Rattle.report.proofs.Adding.{adds_then}
use Rattle.report.proofs.lines.push_window.Goals as goal

pub returns-clause-line : goal.returns-clause-line
returns-clause-line c =
    adds_then c.push_number.ensures.adds
    (adds_then c.push_str.ensures.adds
    (adds_then (rw c.lo.ensures at c.push_number-2.ensures.adds)
    (adds_then c.push_str-2.ensures.adds (adds_then (rw c.hi.ensures at c.push_number-3.ensures.adds) c.push_str-3.ensures.adds))))

use Rattle.report.proofs.Adding.{adds_then}
use Rattle.report.proofs.lines.push_refused.Goals as goal

pub returns-clause-row : goal.returns-clause-row
returns-clause-row c =
    adds_then c.push_str.ensures.adds
    (adds_then (rw c.from.ensures at c.push_number.ensures.adds)
    (adds_then c.push_str-2.ensures.adds (adds_then (rw c.from-2.ensures at c.push_number-2.ensures.adds) c.push_str-3.ensures.adds)))

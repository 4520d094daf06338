use Rattle.report.proofs.Adding.{adds_then}
use Rattle.report.proofs.lines.push_answer.Goals as goal

pub returns-clause-answer : goal.returns-clause-answer
returns-clause-answer c =
    adds_then
    (adds_then c.push_str.ensures.adds (adds_then c.push_str-2.ensures.adds (adds_then c.push_number.ensures.adds c.push_str-3.ensures.adds)))
    c.push_windows.ensures.lines

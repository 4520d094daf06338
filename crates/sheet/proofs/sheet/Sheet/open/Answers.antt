use Rattle.std.proofs.lemmas.Result.{err_from_is_err_and}
use Rattle.sheet.proofs.sheet.Sheet.open.Goals as goal

-- a try that is not begun is refused for the same reason
pub returns-in_err-depth-clause-step : goal.returns-in_err-depth-clause-step
returns-in_err-depth-clause-step g c =
    let p = err_from_is_err_and c.from_residual.result c.from_residual.ensures.1 in
    rw (p.1, p.2) c.in_err-depth.ensures.step

use Rattle.std.proofs.lemmas.Result.{err_from_is_err_and}
use Rattle.sheet.proofs.sheet.Sheet.make.Goals as goal

-- a rule that is refused is answered by its refusal
pub returns-in_err-rule-in-Rule-clause-called : goal.returns-in_err-rule-in-Rule-clause-called
returns-in_err-rule-in-Rule-clause-called g c =
    let p = err_from_is_err_and c.from_residual-in_err-rule-in-Rule.result c.from_residual-in_err-rule-in-Rule.ensures.1 in
    rw (p.1, p.2, c.in-Rule.is) c.in_err-rule-in-Rule.ensures.called

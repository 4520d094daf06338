use Rattle.std.proofs.Common.{Err, ap, ◌∙◌, arith}
use Rattle.std.proofs.Math.ListN.{length-set}
use Rattle.std.proofs.lemmas.Result.{err_from_is_err_and}
use Rattle.commands.proofs.Many.{numbers_all, numbers_more, numbers_over, numbers_unread}
use Rattle.commands.proofs.words.Words.numbers.Goals as goal

pub returns-in_err-number : goal.returns-in_err-number
returns-in_err-number g c =
    let p = err_from_is_err_and c.from_residual.result c.from_residual.ensures.1 in
    p.1 ∙ ap Err p.2 ∙ numbers_unread _ _ _ _ _ _ (omega arith) c.in_err-number.ensures c.loop-number.invariant.all

pub loop-number-preserved : goal.loop-number-preserved
loop-number-preserved g c = record {
  all = numbers_more _ _ _ _ _ _ _ (omega arith) (omega arith) c.in_ok-number.ensures c.loop-number.invariant.all;
  places = omega (arith, length-set c.loop-number.number-items c.loop-number.number-index c.in_ok-number.field-0);
}

pub returns-in_err-end : goal.returns-in_err-end
returns-in_err-end g c =
    let p = err_from_is_err_and c.from_residual-in_err-end.result c.from_residual-in_err-end.ensures.1 in
    p.1 ∙ ap Err p.2 ∙ numbers_over _ _ _ _ _ _ (omega arith) c.in_err-end.ensures c.loop-number.invariant.all

pub returns : goal.returns
returns g c = numbers_all _ _ _ _ _ (omega arith) (omega arith) c.in_ok-end.ensures c.loop-number.invariant.all

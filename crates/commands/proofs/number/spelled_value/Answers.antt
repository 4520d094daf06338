use Rattle.std.proofs.Common.{◌≡◌, ◌+◌, ◌-◌, ◌*◌, get_or, sym, ◌∙◌, arith}
use Rattle.commands.proofs.Digits.{digit_at, grown, small_no, small_yes, spells_all, spells_more}
use Rattle.commands.proofs.number.spelled_value.Goals as goal

pub returns-in_err-checked_mul : goal.returns-in_err-checked_mul
returns-in_err-checked_mul c =
    let e = spells_more _ _ c.args.digits.now c.loop-digit.digit-index (omega arith) c.loop-digit.invariant.all in
    c.from_residual.ensures ∙ small_no _ (grown _ _ (omega (arith, c.in_err-checked_mul.ensures)) e)

pub returns-in_err-value : goal.returns-in_err-value
returns-in_err-value c =
    let e = spells_more _ _ c.args.digits.now c.loop-digit.digit-index (omega arith) c.loop-digit.invariant.all in
    c.from_residual-in_err-value.ensures ∙ small_no _ (grown _ _ (omega (arith, c.in_err-value.ensures)) e)

pub loop-digit-preserved : goal.loop-digit-preserved
loop-digit-preserved c =
    let d = digit_at c.args.digits.now c.loop-digit.digit-index (omega arith) c.loop-digit.invariant.digits in
    let v : c.in_ok-value.value ≡ c.loop-digit.value * 10 + (get_or c.args.digits.now c.loop-digit.digit-index 0 - 48) = omega arith in
    record {
      all = rw v (spells_more _ _ c.args.digits.now c.loop-digit.digit-index (omega arith) c.loop-digit.invariant.all);
      digits = d.others;
      fits = omega arith;
    }

pub returns : goal.returns
returns c =
    small_yes _ _ (sym (spells_all c.loop-digit.value c.args.digits.now c.loop-digit.digit-index (omega arith)) ∙ c.loop-digit.invariant.all) (omega arith)

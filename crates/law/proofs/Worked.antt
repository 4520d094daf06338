-- The worked histories and refusals, by computation.
-- Assumes nothing.
use Rattle.std.proofs.Common.{refl}
use Rattle.law.specs.Force.{tries, struck, lasting, rules_in, lines_in, cut_by, all_cut_by, windows_in}
use Rattle.law.specs.Table.{verdict, checks}
use Rattle.law.specs.WorkedHistories.{Worked}
use Rattle.law.specs.WorkedRefusals.{WorkedRefusals}

-- Each is what the definitions compute to.
pub worked : Worked
unfolding tries struck lasting rules_in lines_in cut_by all_cut_by windows_in
worked =
    record {
      cut_twice = refl;
      cut_in_turn = refl;
      in_a_try = refl;
      kept = refl;
      struck_out = refl;
      rules_struck_out = refl;
      kept_then_struck = refl;
      struck_then_kept = refl;
      refused_pinch = refl;
      refused_strike = refl;
      open_tries = refl;
    }

-- Each verdict is what the table computes to.
pub worked_refusals : WorkedRefusals
unfolding verdict checks
worked_refusals =
    record {
      line_barren = refl;
      line_crossed = refl;
      line_above = refl;
      line_full = refl;
      line_last = refl;
      rule_barren = refl;
      rule_no_kind = refl;
      rule_no_line = refl;
      rule_line_zero = refl;
      rule_third = refl;
      rule_twice = refl;
      rule_full = refl;
      rule_last = refl;
      pinch_barren = refl;
      pinch_no_line = refl;
      pinch_crossed = refl;
      pinch_empties = refl;
      pinch_cuts = refl;
      settle_barren = refl;
      open_barren = refl;
      open_ninth = refl;
      open_eighth = refl;
      keep_barren = refl;
      keep_outer = refl;
      keep_innermost = refl;
      strike_other = refl;
      strike_none = refl;
      strike_barren = refl;
    }

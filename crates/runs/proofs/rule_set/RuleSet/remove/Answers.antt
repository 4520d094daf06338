use Rattle.std.proofs.Common.{ℕ, ◌^◌, ◌<◌, eqb, ap, arith}
use Rattle.std.specs.Int.{w128}
use Rattle.std.proofs.lemmas.Nat.Bits.{bit_at_clear_same}
use Rattle.runs.proofs.RuleSets.{cleared}
use Rattle.runs.proofs.rule_set.RuleSet.remove.Goals as goal

pub returns : goal.returns
returns c =
    let fits : c.args.self.now.bits < 2 ^ 128 = omega arith in
    record {
      here = ap (λ (n : ℕ). eqb n 1) (bit_at_clear_same w128 c.args.self.now.bits c.args.i c.requires);
      others = λ j other. ap (λ (n : ℕ). eqb n 1) (cleared c.args.self.now.bits c.args.i c.requires fits j other);
    }

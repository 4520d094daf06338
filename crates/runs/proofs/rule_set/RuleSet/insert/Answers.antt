use Rattle.std.proofs.Common.{ℕ, eqb, ap}
use Rattle.std.specs.Int.{w128}
use Rattle.std.proofs.lemmas.Nat.Bits.{bit_at_set_same, bit_at_set_other}
use Rattle.runs.proofs.rule_set.RuleSet.insert.Goals as goal

pub returns : goal.returns
returns c = record {
  here = ap (λ (n : ℕ). eqb n 1) (bit_at_set_same w128 c.args.self.now.bits c.args.i c.requires);
  others = λ j other. ap (λ (n : ℕ). eqb n 1) (bit_at_set_other w128 c.args.self.now.bits c.args.i c.requires j other);
}

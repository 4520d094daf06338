use Rattle.std.proofs.Common.{ℕ, eqb, ap}
use Rattle.std.proofs.lemmas.Nat.Bits.{bit_at_ones}
use Rattle.runs.proofs.rule_set.RuleSet.full.Goals as goal

pub returns : goal.returns
returns c = λ j l. ap (λ (n : ℕ). eqb n 1) (bit_at_ones 128 j l)

use Rattle.std.proofs.Common.{◌≡◌, ℕ, ◌+◌, ◌-◌, ◌/◌, ◌%◌, ◌^◌, ◌<◌, eqb, sym, ap, ◌∙◌, inl, inr, arith, pow-add}
use Rattle.std.specs.Int.{bit_at, trailing_zeros, w128}
use Rattle.std.specs.Int.Count.{trailing_of_zero}
use Rattle.std.proofs.Math.Nat.{div-div-eq-div-mul, div-le_self}
use Rattle.std.proofs.lemmas.Bool.{cases_lt}
use Rattle.std.proofs.lemmas.Nat.Bits.{bit_at-zero, bit_at-trailing_zeros}
use Rattle.runs.proofs.rule_set.RuleSet.next.Goals as goal

-- bit k of a number shifted down is bit from + k of the number
shifted : (n from k : ℕ) → bit_at n (from + k) ≡ bit_at (n / 2 ^ from) k
shifted n from k = sym (ap (λ (x : ℕ). x % 2) (div-div-eq-div-mul n (2 ^ from) (2 ^ k) ∙ ap (λ (x : ℕ). n / x) (sym (pow-add 2 from k))))

-- a number of 128 bits has no bit set below its trailing zeros
below : (n k : ℕ) → n < 2 ^ 128 → k < trailing_zeros w128 n → bit_at n k ≡ 0
below n k fits lt = elim (cases_lt 0 n) [ inl some ↦ (bit_at-trailing_zeros w128 n some fits).2 k lt | inr least ↦ ap (λ (x : ℕ). bit_at x k) (omega arith) ∙ bit_at-zero k ]

-- and the bit there is set, where one is
there : (n : ℕ) → n < 2 ^ 128 → trailing_zeros w128 n < 128 → bit_at n (trailing_zeros w128 n) ≡ 1
there n fits lt = elim (cases_lt 0 n) [
  | inl some ↦ (bit_at-trailing_zeros w128 n some fits).1
  | inr least ↦
      let none : trailing_zeros w128 n ≡ 128 = ap (trailing_zeros w128) (omega arith) ∙ trailing_of_zero 128 in
      let z : ⊥ = omega arith in
      absurd z
]

-- what is left of the set fits
fits : (n from : ℕ) → n < 2 ^ 128 → n / 2 ^ from < 2 ^ 128
fits n from lt = omega (arith, div-le_self n (2 ^ from))

pub returns-clause-passed : goal.returns-clause-passed
returns-clause-passed c = λ j from to.
    let n : ℕ = c.args.self.now.bits in
    let small : n < 2 ^ 128 = omega arith in
    let split : j ≡ c.args.from + (j - c.args.from) = omega arith in
    ap (λ (x : ℕ). eqb x 1)
    (ap (bit_at n) split ∙ shifted n c.args.from (j - c.args.from)
    ∙ below (n / 2 ^ c.args.from) (j - c.args.from) (fits n c.args.from small) (omega arith))

pub returns-clause-here : goal.returns-clause-here
returns-clause-here c = λ lt.
    let n : ℕ = c.args.self.now.bits in
    let small : n < 2 ^ 128 = omega arith in
    ap (λ (x : ℕ). eqb x 1)
    (shifted n c.args.from (trailing_zeros w128 (n / 2 ^ c.args.from)) ∙ there (n / 2 ^ c.args.from) (fits n c.args.from small) (omega arith))

-- Rules taken into a set and put out of it, by its bits.
-- Assumes nothing.
use Rattle.std.proofs.Common.{◌≡◌, ℕ, zero, suc, ◌*◌, ◌%◌, ◌^◌, ◌<◌, max, ◌||◌, eqb, refl, ap, ◌∙◌, inl, inr, arith}
use lib.Bits.{bit_and, bit_or}
use Rattle.std.specs.Int.{bit_at, bit_not, w128}
use Rattle.std.proofs.lemmas.Bool.{cases_lt}
use Rattle.std.proofs.lemmas.Nat.Bits.{bit_at-lt, bit_at_above, bit_at_and, bit_at_clear_other, bit_at_or}

-- the greater of two bits
max_one : (x y : ℕ) → x < 2 → y < 2 → eqb (max x y) 1 ≡ (eqb x 1 || eqb y 1)
max_one zero zero p q = refl
max_one zero (suc zero) p q = refl
max_one (suc zero) zero p q = refl
max_one (suc zero) (suc zero) p q = refl
max_one zero (suc (suc y)) p q = let z : ⊥ = omega arith in absurd z
max_one (suc zero) (suc (suc y)) p q = let z : ⊥ = omega arith in absurd z
max_one (suc (suc x)) y p q = let z : ⊥ = omega arith in absurd z

-- a word that joins two others has the bits of both
pub joined : (a b j : ℕ) → eqb (bit_at (bit_or a b) j) 1 ≡ (eqb (bit_at a j) 1 || eqb (bit_at b j) 1)
joined a b j = ap (λ (n : ℕ). eqb n 1) (bit_at_or a b j) ∙ max_one (bit_at a j) (bit_at b j) (bit_at-lt a j) (bit_at-lt b j)

-- a bit is cleared: the others are as they were, also past the last
pub cleared : (w i : ℕ) → i < 128 → w < 2 ^ 128 → (j : ℕ) → (j ≡ i → ⊥) → bit_at (bit_and w (bit_not w128 (1 * 2 ^ i % 2 ^ 128))) j ≡ bit_at w j
cleared w i there fits j other =
    elim (cases_lt j 128) [
      | inl l ↦ bit_at_clear_other w128 w i there j l other
      | inr past ↦
          let none : bit_at w j ≡ 0 = bit_at_above w 128 j fits past in
          let met = bit_at_and w (bit_not w128 (1 * 2 ^ i % 2 ^ 128)) j in
          omega (arith, none, met)
    ]

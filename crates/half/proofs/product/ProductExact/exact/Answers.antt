-- Significands multiply and shifts add.
use Rattle.std.proofs.Common.{◌≡◌, ℕ, ◌+◌, ◌*◌, ◌^◌, ◌<◌, ◌≤◌, ap, ap₂, mul-le-mul, arith, pow_pos, pow-add}
use Rattle.std.proofs.lemmas.Nat.{mul-lt}
use Rattle.half.specs.Formats.{half, size}
use Rattle.half.specs.Steps.{Parted}
use Rattle.half.proofs.product.ProductExact.exact.Goals as goal

-- Two significands make a product of 22 bits.
small : (a b s t j k : ℕ) → Parted a s j → Parted b t k → s * t < 2 ^ 41
small a b s t j k p q = omega (arith, mul-lt s t 2048 2048 p.narrow q.narrow)

-- A shift above 34 takes a shift in both, and then both significands have their one bit.
some : (a b s t j k : ℕ) → Parted a s j → Parted b t k → 34 < j + k → 0 < s * t
some a b s t j k p q h =
    let first : 1024 ≤ s = p.normal (omega (arith, q.low)) in
    let second : 1024 ≤ t = q.normal (omega (arith, p.low)) in
    omega (arith, mul-le-mul {n₁ = 1024} {m₁ = 1024} first second)

-- The product of the sizes, from the parts of both.
same : (a b s t j k : ℕ) → Parted a s j → Parted b t k → size half a * size half b * 2 ^ 24 ≡ s * t * 2 ^ (j + k) * 2 ^ 24
same a b s t j k p q =
    let both : size half a * size half b ≡ (s * 2 ^ j) * (t * 2 ^ k) = ap₂ (λ x y. x * y) p.whole q.whole in
    let shifts : s * t * 2 ^ (j + k) ≡ s * t * (2 ^ j * 2 ^ k) = ap (λ x. s * t * x) (pow-add 2 j k) in
    omega arith

pub returns : goal.returns
returns c =
    let product = c.from.ensures in
    record {
      scaled = pow_pos 24;
      same = rw product (same _ _ _ _ _ _ c.take_apart-first.ensures c.take_apart-second.ensures);
    }

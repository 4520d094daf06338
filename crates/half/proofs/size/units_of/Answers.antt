-- The significand, shifted, loses nothing in 64 bits.
use Rattle.std.proofs.Common.{◌≡◌, ℕ, ◌*◌, ◌%◌, ◌^◌, ◌<◌, ◌≤◌, sym, ◌∙◌, arith, pow_mono}
use Rattle.std.proofs.lemmas.Nat.{shl_whole, mul-le}
use Rattle.half.specs.Formats.{half, size}
use Rattle.half.specs.Steps.{Parted}
use Rattle.half.proofs.size.units_of.Goals as goal

-- The shifted significand is the size, of 40 bits.
shifted : (code s k : ℕ) → Parted code s k → ((s * 2 ^ k) % 2 ^ 64 ≡ size half code) × ((s * 2 ^ k) % 2 ^ 64 < 2 ^ 40)
shifted code s k p =
    let whole = shl_whole s 11 k 64 p.narrow (omega (arith, p.low)) in
    let top : 2 ^ k ≤ 2 ^ 29 = pow_mono {j = 29} p.low in
    (whole ∙ sym p.whole, omega (arith, mul-le s (2 ^ k) 2047 (2 ^ 29) (omega (arith, p.narrow)) top))

pub returns : goal.returns
returns c = let same = c.from.ensures in rw same (shifted _ _ _ c.take_apart-parts.ensures)

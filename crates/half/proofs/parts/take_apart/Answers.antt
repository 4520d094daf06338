-- By the exponent: a code below 1024 is its own size, and any other has the one bit above its fraction.
use Rattle.std.proofs.Common.{◌≡◌, ℕ, ◌+◌, ◌-◌, ◌*◌, ◌/◌, ◌%◌, ◌<◌, ◌≤◌, ap, ◌∙◌, arith}
use lib.Bits.{bit_or}
use Rattle.std.proofs.lemmas.Nat.{or_comm, or_shifted}
use Rattle.half.specs.Formats.{half, size}
use Rattle.half.specs.Steps.{Parted}
use Rattle.half.specs.Sizes.{size_low, size_of}
use Rattle.half.proofs.parts.take_apart.Goals as goal

-- A code with the exponent 0.
low : (code fraction : ℕ) → code / 1024 ≡ 0 → fraction ≡ code % 1024 → Parted code fraction 0
low code fraction none is =
    let same : code ≡ fraction = omega arith in record {
      whole = size_low half code (omega arith) ∙ omega arith;
      narrow = omega arith;
      low = omega arith;
      normal = omega arith;
    }

-- A code with an exponent above 0.
high : (code fraction : ℕ) → code ≤ 31743 → 0 < code / 1024 → fraction ≡ code % 1024 → Parted code (bit_or fraction 1024) (code / 1024 - 1)
high code fraction top some is =
    let set : bit_or fraction 1024 ≡ 1024 + fraction = or_comm fraction 1024 ∙ or_shifted 1 10 fraction (omega arith) in
    let back : code ≡ (code / 1024 - 1) * 1024 + bit_or fraction 1024 = omega arith in record {
      whole = ap (size half) back ∙ size_of half (code / 1024 - 1) (bit_or fraction 1024) (λ _. omega arith) (omega arith);
      narrow = omega arith;
      low = omega arith;
      normal = λ _. omega arith;
    }

pub returns-then-exponent-eq0 : goal.returns-then-exponent-eq0
returns-then-exponent-eq0 c = low c.args.code c.fraction_of-fraction.result (omega arith) c.fraction_of-fraction.ensures

pub returns-else-exponent-eq0 : goal.returns-else-exponent-eq0
returns-else-exponent-eq0 c = high c.args.code c.fraction_of-fraction.result (omega arith) (omega arith) c.fraction_of-fraction.ensures

-- The digits of an exact result, cut at the last place, make the code below it and how far above that code it stands.
-- Assumes nothing beyond what each lemma asks.
use Rattle.std.proofs.Common.{◌≡◌, ℕ, zero, suc, ◌+◌, ◌-◌, ◌*◌, ◌/◌, ◌%◌, ◌^◌, ◌<◌, ◌≤◌, min, max, sym, ap, ◌∙◌, subst, inl, inr, mod-lt, mul-lt-mul_of_pos_right, mul-pos, pow-suc, div-add-mod', arith, pow_pos, pow_mono, pow-add}
use lib.Bits.{bit_or}
use lib.Count.{count_leading_zeros, leading_top}
use Rattle.std.proofs.lemmas.Nat.{or_shr, or_mod, or_comm, div_below, le-div}
use Rattle.std.proofs.lemmas.Bool.{cases_lt}
use Rattle.std.proofs.lemmas.Bool.Decides.{nat_tests}
use Rattle.half.specs.Formats.{half, size, Exact}
use Rattle.half.specs.Roundings.{rounded}
use Rattle.half.specs.Steps.{StandsFor, Length, chosen, limit}
use Rattle.half.specs.declared.mode.Mode.{Mode}
use Rattle.half.specs.declared.mode.Mode.TheVariants.{TowardZero, Nearest, Up}
use Rattle.half.specs.declared.unrounded.Unrounded.{Unrounded}
use Rattle.half.specs.Sizes.{size_of}
use Rattle.half.proofs.Cells.{Cell, cell_rounded, chosen_finer, chosen_above}

-- A power of two is twice the power before.
pub pow_double : (k : ℕ) → 1 ≤ k → 2 ^ k ≡ 2 * 2 ^ (k - 1)
pow_double zero h = elim h [ ]
pow_double (suc k) h = let same : suc k - 1 ≡ k = omega arith in rw same (pow-suc 2 k ∙ omega arith)

-- A number with its lowest bit set.
pub with_one : (n : ℕ) → bit_or n 1 ≡ 2 * (n / 2) + 1
with_one n =
    let upper : bit_or n 1 / 2 ≡ n / 2 = or_shr n 1 1 ∙ or_comm (n / 2) 0 in
    let lower : bit_or n 1 % 2 ≡ 1 = or_mod n 1 1 ∙ odd (n % 2) (mod-lt n (omega arith)) in
    omega arith
  where
    -- a bit that is set is 1
    odd : (b : ℕ) → b < 2 → bit_or b 1 ≡ 1
    odd b h = elim (cases_lt b 1) [ inl lt ↦ let none : b ≡ 0 = omega arith in rw none | inr ge ↦ let one : b ≡ 1 = omega arith in rw one ]

-- The length of a number by its leading zeros.
pub length_of : (n : ℕ) → n < 2 ^ 64 → Length n (64 - count_leading_zeros 64 (bit_or n 1))
length_of n small =
    let w = with_one n in
    let top = leading_top 64 (bit_or n 1) (omega arith) (omega arith) in
    go top.0 (64 - count_leading_zeros 64 (bit_or n 1)) (omega (arith, top.1)) (omega arith) (omega (arith, w, top.2)) (omega (arith, w, top.3))
  where
    -- by the place j of the highest one bit
    go : (j r : ℕ) → r ≡ suc j → r ≤ 64 → 2 ^ j ≤ 2 * (n / 2) + 1 → 2 * (n / 2) + 1 < 2 ^ suc j → Length n r
    go j r e le lo hi = subst (Length n) (sym e) record {
      some = omega arith;
      most = omega arith;
      holds = omega arith;
      needed = λ more. let same : suc j - 1 ≡ j = omega arith in rw same (omega (arith, pow_double j (omega arith)));
    }

-- What is chosen is at most one more than the digits kept.
pub chosen_low : (m : Mode) (c rest step : ℕ) → c < 2048 → chosen m c rest step ≤ 2048
chosen_low TowardZero c rest step h = omega arith
chosen_low Nearest c rest step h = grind (arith, nat_tests)
chosen_low Up c rest step h = grind (arith, nat_tests)

module _ (digits shift len place : ℕ) (long : Length digits len) (at : place ≡ max len (35 - shift)) (small : digits < 2 ^ 41) (some : 34 < shift → 0 < digits) where
  -- The last place is among the digits.
  pub place_some : 1 ≤ place
  place_some = omega (arith, long.some)

  -- It is no higher than the highest of them.
  pub place_low : place ≤ 41
  place_low = elim (cases_lt 41 len) [
    | inl more ↦ omega (arith, long.needed (omega arith), pow_mono {i = 41} {j = len - 1} (omega arith))
    | inr less ↦ elim (cases_lt 41 place) [ inl more ↦ omega arith | inr le ↦ le ]
  ]

  -- The digits kept, eleven at most.
  pub kept_low : digits * 2048 / 2 ^ place < 2048
  kept_low =
      let up : 2 ^ len ≤ 2 ^ place = pow_mono (omega arith) in
      div_below (digits * 2048) (2 ^ place) 2048 (pow_pos place) (omega (arith, long.holds))

  -- Above the least exponent they are eleven.
  kept_high : 35 < place + shift → 1024 ≤ digits * 2048 / 2 ^ place
  kept_high above =
      let same : place ≡ len = omega arith in
      le-div 1024 (digits * 2048) (2 ^ place) (pow_pos place) (omega (arith, ap (λ x. 2 ^ x) same, pow_double len long.some, needed same))
    where
      -- no digit above the highest is counted
      needed : place ≡ len → 2 ^ (len - 1) ≤ digits
      needed same = elim (cases_lt 1 len) [
        | inl more ↦ long.needed more
        | inr one ↦ let e : len ≡ 1 = omega (arith, long.some) in rw e (omega (arith, some (omega arith)))
      ]

  module _ (e : Exact) (is : StandsFor e digits shift) where
    -- The shift of the code.
    abbrev k : ℕ
    k = place + shift - 35

    -- The digits kept.
    abbrev q : ℕ
    q = digits * 2048 / 2 ^ place

    -- The digits dropped.
    abbrev rest : ℕ
    rest = digits * 2048 % 2 ^ place

    -- What one of the digits counts for.
    abbrev unit : ℕ
    unit = 2 ^ shift * e.scale

    -- The cell of the code that the digits kept make, counted in units of 2^-35 of a part.
    cell : Cell half e (2 ^ 35) (k * 1024 + q) (rest * unit) (2 ^ place * unit)
    cell =
        let low = kept_low in
        let normal : 0 < k → 1024 ≤ q = (λ more. kept_high (omega arith)) in
        let here : size half (k * 1024 + q) ≡ q * 2 ^ k = size_of half k q normal (omega arith) in
        let next : size half (k * 1024 + (q + 1)) ≡ (q + 1) * 2 ^ k = size_of half k (q + 1) (λ more. omega (arith, normal more)) (omega arith) in
        let next' : size half (k * 1024 + q + 1) ≡ (q + 1) * 2 ^ k = ap (size half) (omega arith) ∙ next in
        let powers : 2 ^ k * 2 ^ 35 ≡ 2 ^ place * 2 ^ shift = sym (pow-add 2 k 35) ∙ ap (λ x. 2 ^ x) (omega arith) ∙ pow-add 2 place shift in
        let split : (q * 2 ^ place + rest) * unit ≡ digits * 2048 * unit = ap (λ x. x * unit) (div-add-mod' (digits * 2048) (2 ^ place)) in
        let above : e.scale * q * (2 ^ k * 2 ^ 35) ≡ e.scale * q * (2 ^ place * 2 ^ shift) = ap (λ x. e.scale * q * x) powers in
        let once : e.scale * (2 ^ k * 2 ^ 35) ≡ e.scale * (2 ^ place * 2 ^ shift) = ap (λ x. e.scale * x) powers in
        let here' : size half (k * 1024 + q) * e.scale ≡ q * 2 ^ k * e.scale = ap (λ x. x * e.scale) here in
        let next'' : size half (k * 1024 + q + 1) * e.scale ≡ (q + 1) * 2 ^ k * e.scale = ap (λ x. x * e.scale) next' in
        let same = is.same in
        record {
          scaled = is.scaled;
          finer = pow_pos 35;
          at = omega arith;
          next = omega arith;
          within = mul-lt-mul_of_pos_right (mod-lt (digits * 2048) (pow_pos place)) (mul-pos (pow_pos shift) is.scaled);
        }

    -- The rounded code of an exact result that the digits stand for.
    pub placed : (m : Mode) → rounded half m e ≡ min (1024 * k + chosen m q rest (2 ^ place)) (limit half m)
    placed m =
        let pos : 0 < unit = mul-pos (pow_pos shift) is.scaled in
        let c = k * 1024 + q in
        let even : c ≡ 2 * (512 * k) + q = omega arith in
        let same : chosen m c (rest * unit) (2 ^ place * unit) ≡ 1024 * k + chosen m q rest (2 ^ place) =
        chosen_finer m c rest (2 ^ place) unit pos ∙ ap (λ x. chosen m x rest (2 ^ place)) even ∙ chosen_above m (512 * k) q rest (2 ^ place) ∙ omega arith in
        cell_rounded half e (2 ^ 35) c (rest * unit) (2 ^ place * unit) cell m ∙ ap (λ x. min x (limit half m)) same

-- What holds of the last place of an exact result that is held in digits.
pub record Placing (digits shift place : ℕ) : Type 0 where
  pub some : 1 ≤ place
  pub low : place ≤ 41
  pub kept : digits * 2048 / 2 ^ place < 2048
  pub code : (m : Mode) (e : Exact) → StandsFor e digits shift →
      rounded half m e ≡ min (1024 * (place + shift - 35) + chosen m (digits * 2048 / 2 ^ place) (digits * 2048 % 2 ^ place) (2 ^ place)) (limit half m)

-- It holds of the place that the code of `round` finds.
pub placing : (exact : Unrounded) (len place : ℕ) → Length exact.digits len → place ≡ max len (35 - exact.shift) → Placing exact.digits exact.shift place
placing exact len place long at = record {
  some = place_some exact.digits exact.shift len place long at exact.small exact.some;
  low = place_low exact.digits exact.shift len place long at exact.small exact.some;
  kept = kept_low exact.digits exact.shift len place long at exact.small exact.some;
  code = λ m e is. placed exact.digits exact.shift len place long at exact.small exact.some e is m;
}

-- The size of a code, by its parts, and that sizes rise with codes. Assumes nothing: every lemma holds for any format.
use Rattle.std.specs.Prelude.{◌≡◌, ℕ, zero, suc, ◌+◌, ◌-◌, ◌*◌, ◌/◌, ◌%◌, ◌^◌, ◌<◌, ◌≤◌}
use Prim.Native.Nat.compare
use Rattle.std.proofs.Common.{sym, ap, ◌∙◌, subst, inl, inr, add-zero, le_refl, mod-eq_of_lt, div-add-mod', mod-lt, pow-suc, arith, pow_pos}
use Rattle.std.proofs.Math.Nat.{div-eq_of_lt}
use Rattle.std.proofs.Math.Arith.{digits_div, digits_mod}
use Rattle.std.proofs.lemmas.Bool.{cases_lt}
use Rattle.half.specs.Formats.{Format, exponent, size}

-- A code below the first power of two is its own size.
pub size_low : (F : Format) (c : ℕ) → c < 2 ^ F.fraction_bits → size F c ≡ c
unfolding size
size_low F c h = simp (div-eq_of_lt h, mod-eq_of_lt h)

-- The size of the code with the exponent k + 1 and the fraction f.
pub size_high : (F : Format) (k f : ℕ) → f < 2 ^ F.fraction_bits → size F (suc k * 2 ^ F.fraction_bits + f) ≡ (2 ^ F.fraction_bits + f) * 2 ^ k
unfolding size
size_high F k f h =
    let down : suc k - 1 ≡ k = omega arith in
    simp (digits_div (suc k) h, digits_mod (suc k) h, compare.suc-zero, down)

-- The size of a code that is put together from a shift k and a significand s, which has its one bit unless k is 0. The
-- significand may be one too many, so that the code of a carry has its size too.
pub size_of : (F : Format) (k s : ℕ) → (0 < k → 2 ^ F.fraction_bits ≤ s) → s ≤ 2 * 2 ^ F.fraction_bits → size F (k * 2 ^ F.fraction_bits + s) ≡ s * 2 ^ k
size_of F k s normal small = elim (cases_lt s (2 ^ F.fraction_bits)) [ inl lt ↦ below lt | inr le ↦ elim (cases_lt s (2 * 2 ^ F.fraction_bits)) [ inl lt ↦ between le lt | inr ge ↦ carried ge ] ]
  where
    -- no one bit: the shift is 0
    below : s < 2 ^ F.fraction_bits → size F (k * 2 ^ F.fraction_bits + s) ≡ s * 2 ^ k
    below lt =
        let none : k ≡ 0 = elim (cases_lt 0 k) [ inl pos ↦ omega (arith, normal pos) | inr e ↦ omega arith ] in
        rw none (ap (size F) (omega arith) ∙ size_low F s lt ∙ omega arith)

    -- the one bit stands above the fraction
    between : 2 ^ F.fraction_bits ≤ s → s < 2 * 2 ^ F.fraction_bits → size F (k * 2 ^ F.fraction_bits + s) ≡ s * 2 ^ k
    between le lt =
        let whole : k * 2 ^ F.fraction_bits + s ≡ suc k * 2 ^ F.fraction_bits + (s - 2 ^ F.fraction_bits) = omega arith in
        let back : 2 ^ F.fraction_bits + (s - 2 ^ F.fraction_bits) ≡ s = omega arith in
        ap (size F) whole ∙ size_high F k (s - 2 ^ F.fraction_bits) (omega arith) ∙ ap (λ x. x * 2 ^ k) back

    -- the significand of a carry: the next exponent, and no fraction
    carried : 2 * 2 ^ F.fraction_bits ≤ s → size F (k * 2 ^ F.fraction_bits + s) ≡ s * 2 ^ k
    carried ge =
        let full : s ≡ 2 * 2 ^ F.fraction_bits = omega arith in
        let whole : k * 2 ^ F.fraction_bits + s ≡ suc (suc k) * 2 ^ F.fraction_bits + 0 = omega arith in
        let product : s * 2 ^ k ≡ 2 * 2 ^ F.fraction_bits * 2 ^ k = ap (λ x. x * 2 ^ k) full in
        let twice : (2 ^ F.fraction_bits + 0) * 2 ^ suc k ≡ 2 ^ F.fraction_bits * (2 ^ k * 2) = rw pow-suc (omega arith) in
        ap (size F) whole ∙ size_high F (suc k) 0 (pow_pos F.fraction_bits) ∙ twice ∙ omega arith

-- The gap from a code's size to the next one's.
abbrev pub gap : Format → ℕ → ℕ
gap F c = 2 ^ (exponent F c - 1)

-- The next code is larger by the gap.
pub size_next : (F : Format) (c : ℕ) → size F (c + 1) ≡ size F c + gap F c
size_next F c =
    let split : c / 2 ^ F.fraction_bits * 2 ^ F.fraction_bits + c % 2 ^ F.fraction_bits ≡ c = div-add-mod' c (2 ^ F.fraction_bits) in
    let rest : c % 2 ^ F.fraction_bits < 2 ^ F.fraction_bits = mod-lt c (pow_pos F.fraction_bits) in
    go (c / 2 ^ F.fraction_bits) split rest
  where
    -- by the exponent, 0 or more
    go : (q : ℕ) → q * 2 ^ F.fraction_bits + c % 2 ^ F.fraction_bits ≡ c → c % 2 ^ F.fraction_bits < 2 ^ F.fraction_bits → size F (c + 1) ≡ size F c + 2 ^ (q - 1)
    go zero split rest =
        let here = size_of F 0 c (omega arith) (omega arith) in
        let next = size_of F 0 (c + 1) (omega arith) (omega arith) in
        let at : size F c ≡ c * 1 = ap (size F) (omega arith) ∙ here in
        ap (size F) (omega arith) ∙ next ∙ omega arith
    go (suc k) split rest =
        let s = 2 ^ F.fraction_bits + c % 2 ^ F.fraction_bits in
        let here = size_of F k s (λ _. omega arith) (omega arith) in
        let next = size_of F k (s + 1) (λ _. omega arith) (omega arith) in
        let same : k * 2 ^ F.fraction_bits + s ≡ c = omega arith in
        let more : k * 2 ^ F.fraction_bits + (s + 1) ≡ c + 1 = omega arith in
        let shift : 2 ^ (suc k - 1) ≡ 2 ^ k = ap (λ x. 2 ^ x) (omega arith) in
        let at : size F c ≡ s * 2 ^ k = ap (size F) (sym same) ∙ here in
        ap (size F) (sym more) ∙ next ∙ omega arith

-- A size never falls as the code rises.
pub size_rises : (F : Format) (c d : ℕ) → c ≤ d → size F c ≤ size F d
size_rises F c d h = subst (λ x. size F c ≤ size F x) (omega arith) (climb (d - c))
  where
    -- n steps up
    climb : (n : ℕ) → size F c ≤ size F (c + n)
    climb zero = rw add-zero (le_refl (size F c))
    climb (suc n) =
        let same : c + suc n ≡ c + n + 1 = omega arith in
        rw same (omega (arith, climb n, size_next F (c + n)))

-- A greater code has a greater size.
pub size_grows : (F : Format) (c d : ℕ) → c < d → size F c < size F d
size_grows F c d h = omega (arith, size_next F c, pow_pos (exponent F c - 1), size_rises F (c + 1) d (omega arith))

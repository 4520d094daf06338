-- An exact result between two neighbouring codes is rounded to one of them, by how far it is from the first. Every lemma
-- holds for any format.
use Rattle.std.proofs.Common.{◌≡◌, ℕ, ◌+◌, ◌-◌, ◌*◌, ◌/◌, ◌%◌, ◌<◌, ◌≤◌, min, cond, ltb, refl, ap, ◌∙◌, inl, inr, mod-lt, lt_of_mul-lt-mul_right, mul-lt-mul_of_pos_right, mul-pos, div-add-mod', le_of_mul-le-mul_right, arith}
use native.Mathlib.Nat.{eq_of_mul-eq-mul_right, mul-add-div_right, div-eq_of_lt}
use Rattle.std.proofs.lemmas.Bool.{cases_lt, cases_order}
use Rattle.std.proofs.lemmas.Bool.Decides.{nat_tests}
use Rattle.half.specs.Formats.{Format, Exact}
use Rattle.half.specs.Roundings.{value, floor, rounded}
use Rattle.half.specs.Steps.{chosen, limit, nudge}
use Rattle.half.specs.declared.mode.Mode.{Mode}
use Rattle.half.specs.declared.mode.Mode.TheVariants.{TowardZero, Nearest, Up}
use Rattle.half.specs.Rounded.{floor_is, rounds_one, value_rises, value_grows, value_order}

-- The exact result stands `rest` above the code c, and the next code `step` above it, both counted in t-th parts of a part.
pub record Cell (F : Format) (e : Exact) (t c rest step : ℕ) : Type 0 where
  pub scaled : 0 < e.scale
  pub finer : 0 < t
  pub at : value F e c * t + rest ≡ e.parts * t
  pub next : value F e (c + 1) * t ≡ value F e c * t + step
  pub within : rest < step

module _ (F : Format) (e : Exact) (t c rest step : ℕ) (cell : Cell F e t c rest step) where
  -- The code is not above the exact result.
  not_above : value F e c ≤ e.parts
  not_above = le_of_mul-le-mul_right {k = t} (omega (arith, cell.at)) cell.finer

  -- The next code is above it.
  below_next : e.parts < value F e (c + 1)
  below_next = lt_of_mul-lt-mul_right t (omega (arith, cell.at, cell.next, cell.within))

  -- The greatest code up to top that is not above the exact result is c, or top where c is past it.
  cell_floor : floor F e ≡ min c F.top
  cell_floor = rounds_one F TowardZero e cell.scaled _ _ (floor_is F e) record {
    a_code = omega arith;
    not_above = omega (arith, not_above, value_rises F e (min c F.top) c (omega arith));
    greatest = λ d le under. omega (arith, value_order F e d (c + 1) (omega (arith, below_next)));
  }

  -- How the exact result, doubled, stands to the sum of the two values is how the rest, doubled, stands to the step.
  doubled : (value F e c + value F e (c + 1)) * t + 2 * rest ≡ 2 * e.parts * t + step
  doubled = omega (arith, cell.at, cell.next)

  -- Less than half of the step: nearer to the code.
  lower : 2 * rest < step → 2 * e.parts < value F e c + value F e (c + 1)
  lower h = lt_of_mul-lt-mul_right t (omega (arith, doubled))

  -- More than half: nearer to the next.
  upper : step < 2 * rest → value F e c + value F e (c + 1) < 2 * e.parts
  upper h = lt_of_mul-lt-mul_right t (omega (arith, doubled))

  -- Half: in the middle.
  middle : 2 * rest ≡ step → 2 * e.parts ≡ value F e c + value F e (c + 1)
  middle h = eq_of_mul-eq-mul_right t cell.finer _ _ (omega (arith, doubled))

  -- Nothing left: the code is exact.
  exact : rest ≡ 0 → value F e c ≡ e.parts
  exact h = eq_of_mul-eq-mul_right t cell.finer _ _ (omega (arith, cell.at))

  -- Something left: the code is below.
  inexact : 0 < rest → value F e c < e.parts
  inexact h = lt_of_mul-lt-mul_right t (omega (arith, cell.at))

  -- The code is up to top.
  inner : (m : Mode) → c ≤ F.top → rounded F m e ≡ min (chosen m c rest step) (limit F m)
  unfolding rounded
  inner m le = by_mode m
    where
      at_c : floor F e ≡ c
      at_c = cell_floor ∙ omega arith

      by_mode : (m : Mode) → rounded F m e ≡ min (chosen m c rest step) (limit F m)
      by_mode TowardZero = omega (arith, at_c)
      by_mode Nearest = rw at_c (elim (cases_order (2 * rest) step) [
        | inl same ↦ let h = middle same in grind (arith, nat_tests)
        | inr (inl lt) ↦ let h = lower lt in grind (arith, nat_tests)
        | inr (inr gt) ↦ let h = upper gt in grind (arith, nat_tests)
      ])
      by_mode Up = rw at_c (elim (cases_lt 0 rest) [
        | inl some ↦ let h = inexact some in grind (arith, nat_tests)
        | inr none ↦ let h = exact (omega arith) in grind (arith, nat_tests)
      ])

  -- The code is past top.
  outer : (m : Mode) → F.top < c → rounded F m e ≡ min (chosen m c rest step) (limit F m)
  unfolding rounded
  outer m gt = by_mode m
    where
      at_top : floor F e ≡ F.top
      at_top = cell_floor ∙ omega arith

      past : value F e (F.top + 1) ≤ e.parts
      past = omega (arith, not_above, value_rises F e (F.top + 1) c (omega arith))

      step_up : value F e F.top < value F e (F.top + 1)
      step_up = value_grows F e cell.scaled F.top (F.top + 1) (omega arith)

      by_mode : (m : Mode) → rounded F m e ≡ min (chosen m c rest step) (limit F m)
      by_mode TowardZero = omega (arith, at_top)
      by_mode Nearest = let p = past in let u = step_up in rw at_top (grind (arith, nat_tests))
      by_mode Up = let p = past in let u = step_up in rw at_top (grind (arith, nat_tests))

  -- Either way the rounded code is the chosen one, cut to the mode's limit.
  pub cell_rounded : (m : Mode) → rounded F m e ≡ min (chosen m c rest step) (limit F m)
  cell_rounded m = elim (cases_lt F.top c) [ inl gt ↦ outer m gt | inr le ↦ inner m le ]

-- The choice does not depend on how finely rest and step are counted.
pub chosen_finer : (m : Mode) (c rest step g : ℕ) → 0 < g → chosen m c (rest * g) (step * g) ≡ chosen m c rest step
chosen_finer m c rest step g pos = by_mode m
  where
    by_mode : (m : Mode) → chosen m c (rest * g) (step * g) ≡ chosen m c rest step
    by_mode TowardZero = refl
    by_mode Nearest = elim (cases_order (2 * rest) step) [
      | inl same ↦ let h : 2 * rest * g ≡ step * g = ap (λ x. x * g) same in let h' : 2 * (rest * g) ≡ step * g = omega arith in grind (arith, nat_tests)
      | inr (inl lt) ↦ let h : 2 * rest * g < step * g = mul-lt-mul_of_pos_right lt pos in let h' : 2 * (rest * g) < step * g = omega arith in grind (arith, nat_tests)
      | inr (inr gt) ↦ let h : step * g < 2 * rest * g = mul-lt-mul_of_pos_right gt pos in let h' : step * g < 2 * (rest * g) = omega arith in grind (arith, nat_tests)
    ]
    by_mode Up = elim (cases_lt 0 rest) [
      | inl some ↦ let h = mul-pos some pos in grind (arith, nat_tests)
      | inr none ↦ let h : rest * g ≡ 0 * g = ap (λ x. x * g) (omega arith) in grind (arith, nat_tests)
    ]

-- An even number of codes below takes no part in the choice.
pub chosen_above : (m : Mode) (n c rest step : ℕ) → chosen m (2 * n + c) rest step ≡ 2 * n + chosen m c rest step
chosen_above m n c rest step = by_mode m
  where
    by_mode : (m : Mode) → chosen m (2 * n + c) rest step ≡ 2 * n + chosen m c rest step
    by_mode TowardZero = refl
    by_mode Nearest = let odd : (2 * n + c) % 2 ≡ c % 2 = omega arith in grind (arith, nat_tests)
    by_mode Up = grind (arith, nat_tests)

-- Digits to which less than two steps are added keep their quotient or gain one.
module _ (digits step n : ℕ) (pos : 0 < step) where
  -- The digits are their quotient and their rest.
  whole : digits / step * step + digits % step ≡ digits
  whole = div-add-mod' digits step

  -- Too little is added: the quotient stays.
  kept : digits % step + n < step → (digits + n) / step ≡ digits / step
  kept h =
      let split : digits + n ≡ digits / step * step + (digits % step + n) = omega (arith, whole) in
      ap (λ x. x / step) split ∙ mul-add-div_right pos (digits / step) (digits % step + n) ∙ omega (arith, div-eq_of_lt h)

  -- Enough is added: the quotient gains one.
  gained : step ≤ digits % step + n → digits % step + n < 2 * step → (digits + n) / step ≡ digits / step + 1
  gained h h' =
      let split : digits + n ≡ (digits / step + 1) * step + (digits % step + n - step) = omega (arith, whole) in
      let none : (digits % step + n - step) / step ≡ 0 = div-eq_of_lt (omega arith) in
      ap (λ x. x / step) split ∙ mul-add-div_right pos (digits / step + 1) (digits % step + n - step) ∙ omega (arith, none)

-- The digits, nudged, lose their lower ones to the right choice.
pub nudged : (m : Mode) (digits half : ℕ) → 0 < half → (digits + nudge m half (digits / (2 * half) % 2)) / (2 * half) ≡ chosen m (digits / (2 * half)) (digits % (2 * half)) (2 * half)
nudged m digits half pos = by_mode m
  where
    rest_below : digits % (2 * half) < 2 * half
    rest_below = mod-lt digits (omega arith)

    keeps : (n : ℕ) → digits % (2 * half) + n < 2 * half → (digits + n) / (2 * half) ≡ digits / (2 * half)
    keeps n = kept digits (2 * half) n (omega arith)

    gains : (n : ℕ) → 2 * half ≤ digits % (2 * half) + n → digits % (2 * half) + n < 2 * (2 * half) → (digits + n) / (2 * half) ≡ digits / (2 * half) + 1
    gains n = gained digits (2 * half) n (omega arith)

    -- to nearest: by how the rest stands to half a step, and at half of it by the lowest digit kept
    near : (q rest odd : ℕ) → q ≡ digits / (2 * half) → rest ≡ digits % (2 * half) → odd ≡ q % 2 → (digits + (half + odd - 1)) / (2 * half) ≡ cond (ltb (2 * rest) (2 * half)) q (cond (ltb (2 * half) (2 * rest)) (q + 1) (q + q % 2))
    near q rest odd eq er eo = elim (cases_order rest half) [
      | inl same ↦ elim (cases_lt odd 1) [
        | inl even ↦ let k = keeps (half + odd - 1) (omega (arith, rest_below)) in grind (arith, nat_tests)
        | inr one ↦ let g = gains (half + odd - 1) (omega (arith, rest_below)) (omega (arith, rest_below)) in grind (arith, nat_tests)
      ]
      | inr (inl lt) ↦ let k = keeps (half + odd - 1) (omega (arith, rest_below)) in grind (arith, nat_tests)
      | inr (inr gt) ↦ let g = gains (half + odd - 1) (omega (arith, rest_below)) (omega (arith, rest_below)) in grind (arith, nat_tests)
    ]

    by_mode : (m : Mode) → (digits + nudge m half (digits / (2 * half) % 2)) / (2 * half) ≡ chosen m (digits / (2 * half)) (digits % (2 * half)) (2 * half)
    by_mode TowardZero = keeps 0 (omega (arith, rest_below))
    by_mode Nearest = near _ _ _ refl refl refl
    by_mode Up = elim (cases_lt 0 (digits % (2 * half))) [
      | inl some ↦ let g = gains (2 * half - 1) (omega (arith, rest_below)) (omega (arith, rest_below)) in grind (arith, nat_tests)
      | inr none ↦ let k = keeps (2 * half - 1) (omega (arith, rest_below)) in grind (arith, nat_tests)
    ]

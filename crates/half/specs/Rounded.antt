-- The rounded code is the one that the relation describes, the relation describes no other, and it never falls as the exact
-- result rises. Every lemma holds for any format; each asks for a scale above 0 where it needs one.
use Rattle.std.specs.Prelude.{◌≡◌, ℕ, zero, suc, ◌+◌, ◌*◌, ◌%◌, ◌<◌, ◌≤◌, Bool, true, false, ◌⊎◌, ◌==◌, nat_le, nat_lt}
use Rattle.std.proofs.Common.{zero-le, sym, ◌∙◌, subst, le_antisymm, le_refl, mul-le-mul_right, mul-lt-mul_of_pos_right, pow_pos}
use Rattle.std.proofs.Math.Path.{ap}
use Rattle.std.proofs.Math.Logic.{inl, inr}
use native.Mathlib.Omega.{arith}
use Rattle.std.proofs.lemmas.Bool.{cases_lt, cases_order, cond_both, leb-true, le-leb, ltb-true, ltb-false, eqb-true, eqb-false}
use Rattle.std.proofs.lemmas.Bool.Decides.{nat_tests}
use Rattle.half.specs.Formats.{Format, size, Exact}
use Rattle.half.specs.Roundings.{value, apart, last_of, floor, nearer, above, rounded, RoundsTowardZero, RoundsToNearest, RoundsUp, Rounds}
use Rattle.half.specs.declared.mode.Mode.{Mode}
use Rattle.half.specs.declared.mode.Mode.TheVariants.{TowardZero, Nearest, Up}
use Rattle.half.specs.Sizes.{size_low, size_rises, size_grows}

-- What `last_of` finds: a number up to n of which the test holds, and none greater.
record Last (holds : ℕ → Bool) (n r : ℕ) : Type 0 where
  up_to : r ≤ n
  passes : holds r ≡ true
  greatest : (c : ℕ) → c ≤ n → holds c ≡ true → c ≤ r

-- It finds one, where the test holds of 0.
last_is : (holds : ℕ → Bool) (n : ℕ) → holds 0 ≡ true → Last holds n (last_of holds n)
unfolding last_of
last_is holds zero h = record { up_to = zero-le; passes = h; greatest = λ c le _. le }
last_is holds (suc n) h =
    cond_both (holds (suc n)) (suc n) (last_of holds n) (Last holds (suc n))
    (λ t. record { up_to = le_refl (suc n); passes = t; greatest = λ c le _. le })
    (λ f. let under = last_is holds n h in record { up_to = omega (arith, under.up_to); passes = under.passes; greatest = λ c le t. smaller f under c le t })
  where
    -- where the test fails at n + 1, what is found below is the greatest
    smaller : holds (suc n) ≡ false → Last holds n (last_of holds n) → (c : ℕ) → c ≤ suc n → holds c ≡ true → c ≤ last_of holds n
    smaller f under c le t = elim (cases_lt c (suc n)) [ inl lt ↦ under.greatest c (omega arith) t | inr ge ↦ top (omega arith) ]
      where
        top : c ≡ suc n → c ≤ last_of holds n
        top e = let z : true ≡ false = sym t ∙ ap holds e ∙ f in let one : ◌≡◌ {A = ℕ} 0 1 = cc in omega arith

-- The greatest code up to top that is not above the exact result.
pub floor_is : (F : Format) (e : Exact) → RoundsTowardZero F e (floor F e)
unfolding floor
floor_is F e =
    let none : value F e 0 ≡ 0 = ap (λ s. s * e.scale) (size_low F 0 (pow_pos F.fraction_bits)) ∙ omega arith in
    let last = last_is (λ c. nat_le (value F e c) e.parts) F.top (le-leb (value F e 0) e.parts (omega arith)) in
    record {
      a_code = last.up_to;
      not_above = leb-true _ _ last.passes;
      greatest = λ c le under. last.greatest c le (le-leb (value F e c) e.parts under);
    }

-- Values rise with their codes.
pub value_rises : (F : Format) (e : Exact) (c d : ℕ) → c ≤ d → value F e c ≤ value F e d
value_rises F e c d h = mul-le-mul_right e.scale (size_rises F c d h)

-- A greater code has a greater value.
pub value_grows : (F : Format) (e : Exact) → 0 < e.scale → (c d : ℕ) → c < d → value F e c < value F e d
value_grows F e pos c d h = mul-lt-mul_of_pos_right (size_grows F c d h) pos

-- A smaller value comes from a smaller code.
pub value_order : (F : Format) (e : Exact) (c d : ℕ) → value F e c < value F e d → c < d
value_order F e c d h = elim (cases_lt c d) [ inl lt ↦ lt | inr ge ↦ omega (arith, value_rises F e d c ge) ]

module _ (F : Format) (e : Exact) (pos : 0 < e.scale) where
  -- Below top, the exact result lies under the next code's value.
  pub under_next : (f : ℕ) → RoundsTowardZero F e f → f + 1 ≤ F.top → e.parts < value F e (f + 1)
  under_next f is low = elim (cases_lt e.parts (value F e (f + 1))) [ inl lt ↦ lt | inr ge ↦ omega (arith, is.greatest (f + 1) low ge) ]

  -- The code above, or the code itself where it is exact, is the code rounded up.
  pub above_is : (f : ℕ) → RoundsTowardZero F e f → RoundsUp F e (above F e f)
  above_is f is =
      cond_both (value F e f == e.parts) f (f + 1) (RoundsUp F e)
      (λ t. let same = eqb-true _ _ t in record {
        a_code = omega (arith, is.a_code);
        not_below = λ _. omega arith;
        least = λ c _ le. elim (cases_lt c f) [ inl lt ↦ omega (arith, value_grows F e pos c f lt) | inr ge ↦ ge ];
      })
      (λ t. let other = eqb-false _ _ t in record {
        a_code = omega (arith, is.a_code);
        not_below = λ low. omega (arith, under_next f is low);
        least = λ c _ le. elim (cases_lt f c) [ inl lt ↦ omega arith | inr ge ↦ omega (arith, is.not_above, value_rises F e c f ge, other) ];
      })

  -- Where a code c stands beside f and f + 1, and its value beside theirs.
  Beside : ℕ → ℕ → Type 0
  Beside f c =
      ((c < f) × (value F e c < value F e f))
      ⊎ (((c ≡ f) × (value F e c ≡ value F e f))
      ⊎ (((c ≡ f + 1) × (value F e c ≡ value F e (f + 1))) ⊎ ((f + 1 < c) × (value F e (f + 1) < value F e c))))

  -- Every code stands somewhere beside them.
  beside : (f c : ℕ) → Beside f c
  unfolding Beside
  beside f c =
      elim (cases_order c f) [
        | inl same ↦ inr (inl (same, ap (value F e) same))
        | inr (inl lt) ↦ inl (lt, value_grows F e pos c f lt)
        | inr (inr gt) ↦ elim (cases_order c (f + 1)) [
          | inl same ↦ inr (inr (inl (same, ap (value F e) same)))
          | inr (inl lt) ↦ inr (inl (omega arith, omega arith))
          | inr (inr more) ↦ inr (inr (inr (more, value_grows F e pos (f + 1) c more)))
        ]
      ]

  module _ (f : ℕ) (is : RoundsTowardZero F e f) where
    -- The exact result lies under the next code's value, or f is top.
    next_or_top : (e.parts < value F e (f + 1)) ⊎ (f ≡ F.top)
    next_or_top = elim (cases_lt f F.top) [ inl lt ↦ inl (under_next f is (omega arith)) | inr ge ↦ inr (omega (arith, is.a_code)) ]

    -- Nearer to f.
    near_low : 2 * e.parts < value F e f + value F e (f + 1) → RoundsToNearest F e f
    unfolding Beside
    near_low h =
        let v = is.not_above in record {
          a_code = omega (arith, is.a_code);
          nearest = λ c le. elim (beside f c) [ inl p ↦ omega arith | inr (inl p) ↦ omega arith | inr (inr (inl p)) ↦ omega arith | inr (inr (inr p)) ↦ omega arith ];
          tie = λ c le same. elim (beside f c) [ inl p ↦ inl (omega arith) | inr (inl p) ↦ inl p.0 | inr (inr (inl p)) ↦ inl (omega arith) | inr (inr (inr p)) ↦ inl (omega arith) ];
          past = λ over. omega (arith, value_rises F e (f + 1) (F.top + 1) (omega (arith, is.a_code)));
        }

    -- Nearer to f + 1.
    near_high : value F e f + value F e (f + 1) < 2 * e.parts → RoundsToNearest F e (f + 1)
    unfolding Beside
    near_high h =
        let v = is.not_above in
        let n = next_or_top in
        let step = value_grows F e pos f (f + 1) (omega arith) in record {
          a_code = omega (arith, is.a_code);
          nearest = λ c le. elim (beside f c) [ inl p ↦ omega arith | inr (inl p) ↦ omega arith | inr (inr (inl p)) ↦ omega arith | inr (inr (inr p)) ↦ omega arith ];
          tie = λ c le same. elim (beside f c) [ inl p ↦ inl (omega arith) | inr (inl p) ↦ inl (omega arith) | inr (inr (inl p)) ↦ inl p.0 | inr (inr (inr p)) ↦ inl (omega arith) ];
          past = λ over. elim n [ inl lt ↦ omega (arith, value_rises F e (f + 1) (F.top + 1) (omega (arith, is.a_code))) | inr top ↦ omega arith ];
        }

    -- In the middle: either neighbour, if it is even.
    near_even : value F e f + value F e (f + 1) ≡ 2 * e.parts → (r : ℕ) → ((r ≡ f) × (value F e r ≡ value F e f)) ⊎ ((r ≡ f + 1) × (value F e r ≡ value F e (f + 1))) → r % 2 ≡ 0 → RoundsToNearest F e r
    unfolding Beside
    near_even h r which even =
        let v = is.not_above in record {
          a_code = elim which [ inl p ↦ omega (arith, is.a_code) | inr p ↦ omega (arith, is.a_code) ];
          nearest = λ c le. elim which [
            | inl q ↦ elim (beside f c) [ inl p ↦ omega arith | inr (inl p) ↦ omega arith | inr (inr (inl p)) ↦ omega arith | inr (inr (inr p)) ↦ omega arith ]
            | inr q ↦ elim (beside f c) [ inl p ↦ omega arith | inr (inl p) ↦ omega arith | inr (inr (inl p)) ↦ omega arith | inr (inr (inr p)) ↦ omega arith ]
          ];
          tie = λ c le same. inr even;
          past = λ over. omega (arith, value_rises F e (f + 1) (F.top + 1) (omega (arith, is.a_code)), value_grows F e pos f (f + 1) (omega arith));
        }

    -- The nearer of the two neighbours is the code rounded to nearest.
    pub nearer_is : RoundsToNearest F e (nearer F e f)
    nearer_is =
        cond_both (nat_lt (2 * e.parts) (value F e f + value F e (f + 1))) f _ (RoundsToNearest F e)
        (λ t. near_low (ltb-true _ _ t))
        (λ t. cond_both (nat_lt (value F e f + value F e (f + 1)) (2 * e.parts)) (f + 1) (f + f % 2) (RoundsToNearest F e)
        (λ u. near_high (ltb-true _ _ u))
        (λ u. near_even (omega (arith, ltb-false _ _ t, ltb-false _ _ u)) (f + f % 2) even_one (omega arith)))
      where
        -- f + f % 2 is one of the two
        even_one : ((f + f % 2 ≡ f) × (value F e (f + f % 2) ≡ value F e f)) ⊎ ((f + f % 2 ≡ f + 1) × (value F e (f + f % 2) ≡ value F e (f + 1)))
        even_one = elim (cases_lt (f % 2) 1) [
          | inl lt ↦ let same : f + f % 2 ≡ f = omega arith in inl (same, ap (value F e) same)
          | inr ge ↦ let same : f + f % 2 ≡ f + 1 = omega arith in inr (same, ap (value F e) same)
        ]

-- The rounded code is in the relation.
pub rounded_is : (F : Format) (m : Mode) (e : Exact) → 0 < e.scale → Rounds F m e (rounded F m e)
unfolding rounded
rounded_is F TowardZero e pos = floor_is F e
rounded_is F Nearest e pos = nearer_is F e pos (floor F e) (floor_is F e)
rounded_is F Up e pos = above_is F e pos (floor F e) (floor_is F e)

-- Two codes in the relation to results on one scale stand in the order of the results.
pub rounds_order : (F : Format) (m : Mode) (e e' : Exact) → 0 < e.scale → e.scale ≡ e'.scale → e.parts < e'.parts → (r r' : ℕ) → Rounds F m e r → Rounds F m e' r' → r ≤ r'
rounds_order F m e e' pos same lt r r' = by_mode m
  where
    -- on one scale a code has one value
    level : (c : ℕ) → value F e c ≡ value F e' c
    level c = ap (λ s. size F c * s) same

    by_mode : (m : Mode) → Rounds F m e r → Rounds F m e' r' → r ≤ r'
    by_mode TowardZero p p' = p'.greatest r p.a_code (omega (arith, level r, p.not_above))
    by_mode Up p p' = elim (cases_lt F.top r') [
      | inl over ↦ omega (arith, p.a_code)
      | inr low ↦ p.least r' low (omega (arith, level r', p'.not_below low))
    ]
    by_mode Nearest p p' = elim (cases_lt r' r) [
      | inl less ↦ omega (arith, value_grows F e pos r' r less, level r, level r', p.nearest r' p'.a_code, p'.nearest r p.a_code)
      | inr ge ↦ ge
    ]

-- The relation describes one code.
pub rounds_one : (F : Format) (m : Mode) (e : Exact) → 0 < e.scale → (r r' : ℕ) → Rounds F m e r → Rounds F m e r' → r ≡ r'
rounds_one F TowardZero e pos r r' p p' = le_antisymm (p'.greatest r p.a_code p.not_above) (p.greatest r' p'.a_code p'.not_above)
rounds_one F Up e pos r r' p p' = le_antisymm (below r r' p p') (below r' r p' p)
  where
    -- each is the least
    below : (r r' : ℕ) → RoundsUp F e r → RoundsUp F e r' → r ≤ r'
    below r r' p p' = elim (cases_lt F.top r') [ inl over ↦ omega (arith, p.a_code) | inr low ↦ p.least r' low (p'.not_below low) ]
rounds_one F Nearest e pos r r' p p' = le_antisymm (below r r' p p') (below r' r p' p)
  where
    -- of two that are equally near, both even, the code between them would be nearer
    below : (r r' : ℕ) → RoundsToNearest F e r → RoundsToNearest F e r' → r ≤ r'
    below r r' p p' = elim (cases_lt r' r) [ inl less ↦ between less | inr ge ↦ ge ]
      where
        between : r' < r → r ≤ r'
        between less =
            let level : apart (value F e r) e.parts ≡ apart (value F e r') e.parts = le_antisymm (p.nearest r' p'.a_code) (p'.nearest r p.a_code) in
            let even = p.tie r' p'.a_code level in
            let even' = p'.tie r p.a_code (sym level) in
            let apart-two : r' + 1 < r = elim even [ inl same ↦ omega arith | inr e₁ ↦ elim even' [ inl same ↦ omega arith | inr e₂ ↦ omega arith ] ] in
            omega (
              arith,
              p.nearest (r' + 1) (omega (arith, p.a_code)),
              value_grows F e pos r' (r' + 1) (omega arith),
              value_grows F e pos (r' + 1) r apart-two,
            )

-- The rounded code never falls as the exact result rises.
pub rounded_rises : (F : Format) (m : Mode) (e e' : Exact) → 0 < e.scale → e.scale ≡ e'.scale → e.parts ≤ e'.parts → rounded F m e ≤ rounded F m e'
rounded_rises F m e e' pos same le = elim (cases_lt e.parts e'.parts) [
  | inl lt ↦ rounds_order F m e e' pos same lt _ _ (rounded_is F m e pos) (rounded_is F m e' (subst (λ s. 0 < s) same pos))
  | inr ge ↦ let level : e.parts ≡ e'.parts = omega arith in let whole : e ≡ e' = (λ i. record { parts = level i; scale = same i }) in omega (arith, ap (λ x. rounded F m x) whole)
]

-- A rounded code is at most top + 1.
pub rounded_bounded : (F : Format) (m : Mode) (e : Exact) → rounded F m e ≤ F.top + 1
unfolding rounded
rounded_bounded F m e = by_mode m
  where
    low : floor F e ≤ F.top
    low = (floor_is F e).a_code

    by_mode : (m : Mode) → rounded F m e ≤ F.top + 1
    by_mode TowardZero = omega (arith, low)
    by_mode Nearest = grind (arith, nat_tests, low)
    by_mode Up = grind (arith, nat_tests, low)

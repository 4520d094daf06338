-- The worked cases of the counter drive, over the definitions. Assumes nothing.
use Rattle.std.proofs.Common.{◌≡◌, ℕ, ◌+◌, ◌*◌, ◌/◌, ◌<◌, ◌≤◌, Bool, true, false, ◌&&◌, T, leb, ◌⊎◌, [], ◌∷◌, sym, refl, ap, ◌∙◌, inl, inr, arith, lit<, lit≤, leb→le, rules}
use Rattle.boxes.specs.declared.interval.Interval.{Interval}
use Rattle.boxes.specs.declared.triple.Triple.{Triple}
use Rattle.boxes.specs.Boxes.{Choice, In, Smallest}
use Rattle.codes.specs.Counter.{counter_product}
use Rattle.books.specs.Worked.{CounterProducts, CounterTravels, TravelsShown}
use Rattle.windows.specs.Spans.{Span}
use Rattle.books.specs.CounterBooks.{CounterMeets}
use Rattle.books.specs.Narrowings.{Fit}
use Rattle.books.proofs.Once.{shows_box, shows_none}
use Rattle.books.proofs.Threes.{three_none, three_closes}

-- Small factors: the product is the quotient.
plain : (a b : ℕ) → a ≤ 65535 → b ≤ 65535 → a * b / 1000 ≤ 65535 → counter_product a b ≡ a * b / 1000
plain a b ha hb hr = search rules

-- One of two neighbours.
either : (lo x : ℕ) → lo ≤ x → x ≤ lo + 1 → (x ≡ lo) ⊎ (x ≡ lo + 1)
either lo x l h = search rules

-- Both tests of a pair hold.
and_first : (p q : Bool) → T (p && q) → T p
and_first true q t = tt
and_first false q t = t

and_second : (p q : Bool) → T (p && q) → T q
and_second true q t = t
and_second false q t = absurd t

-- The interval from lo to hi.
abbrev from_to : (lo hi : ℕ) → lo ≤ hi → hi < 2147483647 → Interval
from_to lo hi o s = record { lo = lo; hi = hi; ordered = o; small = s }

-- The product where the first factor is known, and where the second is.
left_known : (k x y : ℕ) → x ≡ k → k ≤ 65535 → y ≤ 65535 → k * y / 1000 ≤ 65535 → counter_product x y ≡ k * y / 1000
left_known k x y e hk hy hr = ap (λ (v : ℕ). counter_product v y) e ∙ plain k y hk hy hr

right_known : (k x y : ℕ) → y ≡ k → x ≤ 65535 → k ≤ 65535 → x * k / 1000 ≤ 65535 → counter_product x y ≡ x * k / 1000
right_known k x y e hx hk hr = ap (λ (v : ℕ). counter_product x v) e ∙ plain x k hx hk hr

-- Whether both ends of the interval leave x inside.
abbrev inside : Interval → ℕ → Bool
inside w x = leb w.lo x && leb x w.hi

-- What the test says.
inside_in : (w : Interval) (x : ℕ) → T (inside w x) → In w x
inside_in w x t = record { from = leb→le _ _ (and_first _ _ t); to = leb→le _ _ (and_second _ _ t) }

-- A choice of numerals, checked by computing.
witness : (a b c : Interval) (x y z : ℕ) → T (inside a x) → T (inside b y) → T (inside c z) → counter_product x y ≡ z → Choice counter_product a b c x y z
witness a b c x y z ta tb tc e = record { first = inside_in a x ta; second = inside_in b y tb; third = inside_in c z tc; result = e }

-- Products from 3000 × 1500 on that jump over 4502 and 4505.
module _ where
  abbrev a₁ : Interval
  a₁ = from_to 3000 3002 (lit≤ tt) (lit< tt)

  abbrev b₁ : Interval
  b₁ = from_to 1500 1501 (lit≤ tt) (lit< tt)

  abbrev c₁ : Interval
  c₁ = from_to 4502 4505 (lit≤ tt) (lit< tt)

  abbrev box₁ : Triple Interval
  box₁ = record { a = a₁; b = b₁; c = from_to 4503 4504 (lit≤ tt) (lit< tt) }

  -- A product of the windows lies from 4503 to 4504.
  met₁ : (x y z : ℕ) → x ≤ 3002 → 3000 ≤ x → 1500 ≤ y → y ≤ 1501 → 4502 ≤ z → z ≤ 4505 → counter_product x y ≡ z → (4503 ≤ z) × (z ≤ 4504)
  met₁ x y z hx lx ly hy lz hz e = elim (either 1500 y ly hy) [
    | inl k ↦ (let r : z ≡ x * 1500 / 1000 = sym e ∙ right_known 1500 x y k (omega arith) (lit≤ tt) (omega arith) in (omega arith, omega arith))
    | inr k ↦ (let r : z ≡ x * 1501 / 1000 = sym e ∙ right_known 1501 x y k (omega arith) (lit≤ tt) (omega arith) in (omega arith, omega arith))
  ]

  -- Six products at the six ends.
  smallest₁ : Smallest counter_product a₁ b₁ c₁ box₁
  smallest₁ = record {
    holds = λ x y z h.
        let third = met₁ x y z h.first.to h.first.from h.second.from h.second.to h.third.from h.third.to h.result in
        record { first = h.first; second = h.second; third = record { from = third.0; to = third.1 } };
    first_lo = (1501, 4503, witness a₁ b₁ c₁ 3000 1501 4503 tt tt tt refl);
    first_hi = (1500, 4503, witness a₁ b₁ c₁ 3002 1500 4503 tt tt tt refl);
    second_lo = (3002, 4503, witness a₁ b₁ c₁ 3002 1500 4503 tt tt tt refl);
    second_hi = (3000, 4503, witness a₁ b₁ c₁ 3000 1501 4503 tt tt tt refl);
    third_lo = (3000, 1501, witness a₁ b₁ c₁ 3000 1501 4503 tt tt tt refl);
    third_hi = (3001, 1501, witness a₁ b₁ c₁ 3001 1501 4504 tt tt tt refl);
  }

-- A travel of 5 that no corner of the windows gives.
module _ where
  abbrev a₂ : Interval
  a₂ = from_to 3 4 (lit≤ tt) (lit< tt)

  abbrev b₂ : Interval
  b₂ = from_to 1000 1500 (lit≤ tt) (lit< tt)

  abbrev c₂ : Interval
  c₂ = from_to 5 5 (lit≤ tt) (lit< tt)

  abbrev box₂ : Triple Interval
  box₂ = record { a = from_to 4 4 (lit≤ tt) (lit< tt); b = from_to 1250 1499 (lit≤ tt) (lit< tt); c = c₂ }

  -- A product of 5 comes from 4 and from 1250 to 1499.
  met₂ : (x y z : ℕ) → 3 ≤ x → x ≤ 4 → 1000 ≤ y → y ≤ 1500 → 5 ≤ z → z ≤ 5 → counter_product x y ≡ z → (4 ≤ x) × (1250 ≤ y) × (y ≤ 1499)
  met₂ x y z lx hx ly hy lz hz e = elim (either 3 x lx hx) [
    | inl k ↦ (let r : z ≡ 3 * y / 1000 = sym e ∙ left_known 3 x y k (lit≤ tt) (omega arith) (omega arith) in let no_way : ⊥ = omega arith in absurd no_way)
    | inr k ↦ (let r : z ≡ 4 * y / 1000 = sym e ∙ left_known 4 x y k (lit≤ tt) (omega arith) (omega arith) in (omega arith, omega arith, omega arith))
  ]

  -- Two products, at the ends of the second window.
  smallest₂ : Smallest counter_product a₂ b₂ c₂ box₂
  smallest₂ = record {
    holds = λ x y z h.
        let m = met₂ x y z h.first.from h.first.to h.second.from h.second.to h.third.from h.third.to h.result in
        record { first = record { from = m.0; to = h.first.to }; second = record { from = m.1; to = m.2 }; third = h.third };
    first_lo = (1250, 5, low₂);
    first_hi = (1250, 5, low₂);
    second_lo = (4, 5, low₂);
    second_hi = (4, 5, witness a₂ b₂ c₂ 4 1499 5 tt tt tt refl);
    third_lo = (4, 1250, low₂);
    third_hi = (4, 1250, low₂);
  }
    where
      low₂ : Choice counter_product a₂ b₂ c₂ 4 1250 5
      low₂ = witness a₂ b₂ c₂ 4 1250 5 tt tt tt refl

-- Products on both sides of 3232, and none on it.
module _ where
  abbrev a₃ : Interval
  a₃ = from_to 1700 1701 (lit≤ tt) (lit< tt)

  abbrev b₃ : Interval
  b₃ = from_to 1900 1901 (lit≤ tt) (lit< tt)

  abbrev c₃ : Interval
  c₃ = from_to 3232 3232 (lit≤ tt) (lit< tt)

  -- 1700 makes 3230 or 3231, 1701 makes 3231 or 3233.
  none₃ : (x y z : ℕ) → Choice counter_product a₃ b₃ c₃ x y z → ⊥
  none₃ x y z h =
      let lx : 1700 ≤ x = h.first.from in
      let hx : x ≤ 1701 = h.first.to in
      let ly : 1900 ≤ y = h.second.from in
      let hy : y ≤ 1901 = h.second.to in
      let lz : 3232 ≤ z = h.third.from in
      let hz : z ≤ 3232 = h.third.to in
      elim (either 1700 x lx hx) [
        | inl k ↦ (let r : z ≡ 1700 * y / 1000 = sym h.result ∙ left_known 1700 x y k (lit≤ tt) (omega arith) (omega arith) in omega arith)
        | inr k ↦ (let r : z ≡ 1701 * y / 1000 = sym h.result ∙ left_known 1701 x y k (lit≤ tt) (omega arith) (omega arith) in omega arith)
      ]

-- The products, by computing.
pub counter_products : CounterProducts
counter_products = record { just_below_one = refl; just_one = refl; just_top = refl; just_over = refl }

-- Three windows with no end above the top are fit for a travel.
fit : (a b c : Span) → a.hi ≤ 65535 → b.hi ≤ 65535 → c.hi ≤ 65535 → Fit 65535 3 (a ∷ b ∷ c ∷ [])
fit a b c p q r = record { known = lit< tt; up_to = (p, (q, (r, tt))) }

-- The travels, by the boxes above.
pub counter_travels : CounterTravels
counter_travels = record {
  jumps = three_closes counter_product a₁ b₁ c₁ box₁ smallest₁;
  middle = three_closes counter_product a₂ b₂ c₂ box₂ smallest₂;
  empty = three_none counter_product a₃ b₃ c₃ none₃;
}

-- What the book's answers to them show.
pub travels_shown : TravelsShown
travels_shown = record {
  jumps = shows_box 65535 3 (CounterMeets 2) _ _ (fit _ _ _ (lit≤ tt) (lit≤ tt) (lit≤ tt)) counter_travels.jumps;
  middle = shows_box 65535 3 (CounterMeets 2) _ _ (fit _ _ _ (lit≤ tt) (lit≤ tt) (lit≤ tt)) counter_travels.middle;
  empty = shows_none 65535 3 (CounterMeets 2) _ (fit _ _ _ (lit≤ tt) (lit≤ tt) (lit≤ tt)) counter_travels.empty;
}

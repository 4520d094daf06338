-- The steps of a walk to the corner of all hits, for an operation f that never falls. Assumes nothing.
use Rattle.std.proofs.Common.{ℕ, ◌+◌, ◌<◌, ◌≤◌, le_refl, arith}
use native.Mathlib.Decide.{dec_le}
use Rattle.codes.specs.Operations.{Rises}
use Rattle.boxes.specs.declared.field.Field.{Field}
use Rattle.boxes.specs.Walks.{Reaches, Hit, Bounds}

-- The walk stands at x, y within the field, and every hit lies right of it and below it.
pub record Walking (f : ℕ → ℕ → ℕ) (p : Field) (x y : ℕ) : Type 0 where
  pub left : p.x0 ≤ x
  pub right : x < p.x1
  pub bottom : p.y0 ≤ y
  pub top : y ≤ p.y1
  pub bounds : Bounds f p x y

module _ (f : ℕ → ℕ → ℕ) (rises : Rises f) (p : Field) where
  -- at the upper left every hit is still ahead
  pub set_out : Walking f p p.x0 p.y1
  set_out = record {
    left = omega arith;
    right = p.across;
    bottom = p.upward;
    top = omega arith;
    bounds = λ x' y' h. (h.left, h.top);
  }

  -- where the result is too low, no hit stands before the place where the row comes to the band
  pub rightward : (x y r : ℕ) → Walking f p x y → f x y < p.lo → Reaches (λ k. f k y) (x + 1) p.x1 p.lo r → Bounds f p r y
  rightward x y r w short reach x' y' h =
      let b = w.bounds x' y' h in
      let up : f x' y' ≤ f x' y = rises x' x' y' y (le_refl x') b.1 in
      let past : r ≤ x' = elim (dec_le r x') [
        | yes le ↦ le
        | no gt ↦ elim (dec_le x' x) [
          | yes le ↦ (let over : f x' y ≤ f x y = rises x' x y y le (le_refl y) in omega (arith, h.from))
          | no more ↦ omega (arith, reach.before x' (omega arith) (omega arith), h.from)
        ]
      ] in
      (past, b.1)

  -- where the result is too high, every hit stands below the place where the column comes to the end of the band
  pub downward : (x y r : ℕ) → Walking f p x y → p.end ≤ f x y → Reaches (f x) p.y0 y p.end r → (x' y' : ℕ) → Hit f p x' y' → (x ≤ x') × (y' < r)
  downward x y r w far reach x' y' h =
      let b = w.bounds x' y' h in
      let lower : f x y' ≤ f x' y' = rises x x' y' y' b.0 (le_refl y') in
      let under : y' < r = elim (dec_le r y') [
        | no lt ↦ omega arith
        | yes le ↦ elim (dec_le y r) [
          | yes top ↦ (let same : f x y ≤ f x y' = rises x x y y' (le_refl x) (omega arith) in omega (arith, h.below))
          | no in_row ↦ (let same : f x r ≤ f x y' = rises x x r y' (le_refl x) le in omega (arith, reach.at (omega arith), h.below))
        ]
      ] in
      (b.0, under)

-- The walks to the least and the greatest result of all hits, through bands that shrink. Assumes nothing.
use Rattle.std.proofs.Common.{◌≡◌, ℕ, ◌+◌, ◌-◌, ◌<◌, ◌≤◌, sym, refl, le_refl, arith}
use native.Mathlib.Decide.{dec_le}
use Rattle.codes.specs.Operations.{Rises}
use Rattle.boxes.specs.declared.field.Field.{Field}
use Rattle.boxes.specs.declared.field.Point.{Point}
use Rattle.boxes.specs.Walks.{Reaches, Hit, Corner, Lowest, Rightmost, Least, Greatest, Part}

-- The best so far is a hit, and every hit with a lesser result lies right of it and below it.
pub record Falling (f : ℕ → ℕ → ℕ) (p : Field) (best : Point) : Type 0 where
  pub hit : Hit f p best.x best.y
  pub code : best.code ≡ f best.x best.y
  pub ahead : (x y : ℕ) → Hit f p x y → f x y < best.code → (best.x ≤ x) × (y ≤ best.y)

-- The best so far is a hit, and every hit with a greater result lies right of it and below it.
pub record Growing (f : ℕ → ℕ → ℕ) (p : Field) (best : Point) : Type 0 where
  pub hit : Hit f p best.x best.y
  pub code : best.code ≡ f best.x best.y
  pub ahead : (x y : ℕ) → Hit f p x y → best.code < f x y → (best.x ≤ x) × (y ≤ best.y)

module _ (f : ℕ → ℕ → ℕ) (p : Field) where
  -- a hit of a part of the field, in a part of the band, is a hit of the field
  pub wider : (best : Point) (lo end : ℕ) (q : Field) → Part p best lo end q → p.x0 ≤ best.x → best.y ≤ p.y1 → p.lo ≤ lo → end ≤ p.end → (x y : ℕ) → Hit f q x y → Hit f p x y
  wider best lo end q part left top from below x y h = record {
    left = omega (arith, part.x0, h.left);
    right = omega (arith, part.x1, h.right);
    bottom = omega (arith, part.y0, h.bottom);
    top = omega (arith, part.y1, h.top);
    from = omega (arith, part.lo_is, h.from);
    below = omega (arith, part.end_is, h.below);
  }

  -- a hit of the field that lies in the part and in its band is a hit of the part
  pub narrower : (best : Point) (lo end : ℕ) (q : Field) → Part p best lo end q → (x y : ℕ) → Hit f p x y → best.x ≤ x → y ≤ best.y → lo ≤ f x y → f x y < end → Hit f q x y
  narrower best lo end q part x y h left top from below = record {
    left = omega (arith, part.x0);
    right = omega (arith, part.x1, h.right);
    bottom = omega (arith, part.y0, h.bottom);
    top = omega (arith, part.y1);
    from = omega (arith, part.lo_is);
    below = omega (arith, part.end_is);
  }

  -- a walk to the least result sets out from the corner
  pub falling_from : (start : Point) → Corner f p start → Falling f p start
  falling_from start k = record { hit = k.hit; code = k.code; ahead = λ x y h less. k.bounds x y h }

  pub growing_from : (start : Point) → Corner f p start → Growing f p start
  growing_from start k = record { hit = k.hit; code = k.code; ahead = λ x y h more. k.bounds x y h }

  -- the corner of the results below the best is the next best
  pub falling_next : (best next : Point) (q : Field) → Falling f p best → Part p best p.lo best.code q → Corner f q next → Falling f p next
  falling_next best next q w part k = record {
    hit = wider best p.lo best.code q part w.hit.left w.hit.top (omega arith) (omega (arith, w.code, w.hit.below)) _ _ k.hit;
    code = k.code;
    ahead = λ x y h less.
        let lower : f x y < best.code = omega (arith, k.code, k.hit.below, part.end_is) in
        let on = w.ahead x y h lower in
        k.bounds x y (narrower best p.lo best.code q part x y h on.0 on.1 h.from lower);
  }

  -- the corner of the results above the best is the next best
  pub growing_next : (best next : Point) (q : Field) → Growing f p best → Part p best (best.code + 1) p.end q → Corner f q next → Growing f p next
  growing_next best next q w part k = record {
    hit = wider best (best.code + 1) p.end q part w.hit.left w.hit.top (omega (arith, w.code, w.hit.from)) (omega arith) _ _ k.hit;
    code = k.code;
    ahead = λ x y h more.
        let higher : best.code < f x y = omega (arith, k.code, k.hit.from, part.lo_is) in
        let on = w.ahead x y h higher in
        k.bounds x y (narrower best (best.code + 1) p.end q part x y h on.0 on.1 (omega arith) h.below);
  }

  -- where no hit has a result below the best, the best is the least
  pub falling_done : (best : Point) → Falling f p best → ((x y : ℕ) → Hit f p x y → f x y < best.code → ⊥) → Least f p best.code
  falling_done best w none = record {
    met = (best.x, best.y, w.hit, sym w.code);
    least = λ x y h. elim (dec_le best.code (f x y)) [ yes le ↦ le | no gt ↦ absurd (none x y h (omega arith)) ];
  }

  pub growing_done : (best : Point) → Growing f p best → ((x y : ℕ) → Hit f p x y → best.code < f x y → ⊥) → Greatest f p best.code
  growing_done best w none = record {
    met = (best.x, best.y, w.hit, sym w.code);
    greatest = λ x y h. elim (dec_le (f x y) best.code) [ yes le ↦ le | no gt ↦ absurd (none x y h (omega arith)) ];
  }

  -- the part below the best has no hit: no hit of the field has a lesser result
  pub falling_none : (best : Point) (q : Field) → Falling f p best → Part p best p.lo best.code q → ((x y : ℕ) → Hit f q x y → ⊥) → (x y : ℕ) → Hit f p x y → f x y < best.code → ⊥
  falling_none best q w part none x y h less =
      let on = w.ahead x y h less in
      none x y (narrower best p.lo best.code q part x y h on.0 on.1 h.from less)

  pub growing_none : (best : Point) (q : Field) → Growing f p best → Part p best (best.code + 1) p.end q → ((x y : ℕ) → Hit f q x y → ⊥) → (x y : ℕ) → Hit f p x y → best.code < f x y → ⊥
  growing_none best q w part none x y h more =
      let on = w.ahead x y h more in
      none x y (narrower best (best.code + 1) p.end q part x y h on.0 on.1 (omega arith) h.below)

module _ (f : ℕ → ℕ → ℕ) (rises : Rises f) (p : Field) where
  -- from a hit down to where its column comes to the band
  pub goes_down : (at : Point) (y code : ℕ) → Hit f p at.x at.y → Reaches (f at.x) p.y0 at.y p.lo y → code ≡ f at.x y → Lowest f p at (record { x = at.x; y = y; code = code })
  goes_down at y code h reach is =
      let under : f at.x y ≤ f at.x at.y = rises at.x at.x y at.y (le_refl at.x) reach.high in
      let from : p.lo ≤ f at.x y = elim (dec_le at.y y) [
        | yes le ↦ (let same : f at.x at.y ≤ f at.x y = rises at.x at.x at.y y (le_refl at.x) le in omega (arith, h.from))
        | no gt ↦ reach.at (omega arith)
      ] in
      record {
        first = refl;
        second = reach.high;
        hit = record { left = h.left; right = h.right; bottom = reach.low; top = omega (arith, reach.high, h.top); from = from; below = omega (arith, h.below) };
        code = is;
        lowest = λ y' h'. elim (dec_le y y') [ yes le ↦ le | no gt ↦ omega (arith, reach.before y' h'.bottom (omega arith), h'.from) ];
      }

  -- from a hit right to where its row comes to the end of the band
  pub goes_right : (at : Point) (r code : ℕ) → Hit f p at.x at.y → Reaches (λ k. f k at.y) (at.x + 1) p.x1 p.end r → code ≡ f (r - 1) at.y → Rightmost f p at (record { x = r - 1; y = at.y; code = code })
  goes_right at r code h reach is =
      let over : f at.x at.y ≤ f (r - 1) at.y = rises at.x (r - 1) at.y at.y (omega (arith, reach.low)) (le_refl at.y) in
      let below : f (r - 1) at.y < p.end = elim (dec_le (r - 1) at.x) [
        | yes le ↦ (let same : f (r - 1) at.y ≤ f at.x at.y = rises (r - 1) at.x at.y at.y le (le_refl at.y) in omega (arith, h.below))
        | no gt ↦ reach.before (r - 1) (omega arith) (omega arith)
      ] in
      record {
        first = omega (arith, reach.low);
        second = refl;
        hit = record { left = omega (arith, reach.low, h.left); right = omega (arith, reach.low, reach.high); bottom = h.bottom; top = h.top; from = omega (arith, h.from); below = below };
        code = is;
        rightmost = λ x h'.
            elim (dec_le x (r - 1)) [
              | yes le ↦ le
              | no gt ↦
                  (let past : f r at.y ≤ f x at.y = rises r x at.y at.y (omega arith) (le_refl at.y) in
                  omega (arith, reach.at (omega (arith, h'.right)), h'.below))
            ];
      }

  -- its result is no greater, and that of the rightmost no less
  pub down_code : (at low : Point) → Lowest f p at low → low.code ≤ f at.x at.y
  down_code at low l =
      let under : f low.x low.y ≤ f at.x at.y = rises low.x at.x low.y at.y (omega (arith, l.first)) l.second in
      omega (arith, l.code)

  pub right_code : (at far : Point) → Rightmost f p at far → f at.x at.y ≤ far.code
  right_code at far l =
      let over : f at.x at.y ≤ f far.x far.y = rises at.x far.x at.y far.y l.first (omega (arith, l.second)) in
      omega (arith, l.code)

  -- the best so far may go down as long as it is a hit
  pub falling_down : (best low : Point) → Falling f p best → Lowest f p best low → Falling f p low
  falling_down best low w l = record {
    hit = l.hit;
    code = l.code;
    ahead = λ x y h less.
        let on = w.ahead x y h (omega (arith, w.code, down_code best low l)) in
        let right : low.x ≤ x = omega (arith, l.first, on.0) in
        let below : y ≤ low.y = elim (dec_le y low.y) [
          | yes le ↦ le
          | no gt ↦ (let over : f low.x low.y ≤ f x y = rises low.x x low.y y right (omega arith) in omega (arith, l.code))
        ] in
        (right, below);
  }

  -- the best so far may go right as long as it is a hit
  pub growing_right : (best far : Point) → Growing f p best → Rightmost f p best far → Growing f p far
  growing_right best far w l = record {
    hit = l.hit;
    code = l.code;
    ahead = λ x y h more.
        let on = w.ahead x y h (omega (arith, w.code, right_code best far l)) in
        let below : y ≤ far.y = omega (arith, l.second, on.1) in
        let right : far.x ≤ x = elim (dec_le far.x x) [
          | yes le ↦ le
          | no gt ↦ (let under : f x y ≤ f far.x far.y = rises x far.x y far.y (omega arith) below in omega (arith, l.code))
        ] in
        (right, below);
  }

  -- where the result at the lower left comes to the band, it is the least of all hits
  pub at_bottom : (x y r : ℕ) → Hit f p x y → r ≡ f p.x0 p.y0 → p.lo ≤ r → Least f p r
  at_bottom x y r h is from =
      let under : f p.x0 p.y0 ≤ f x y = rises p.x0 x p.y0 y h.left h.bottom in
      record {
        met = (p.x0, p.y0, record { left = omega arith; right = p.across; bottom = omega arith; top = p.upward; from = omega arith; below = omega (arith, h.below) }, sym is);
        least = λ x' y' h'. let below : f p.x0 p.y0 ≤ f x' y' = rises p.x0 x' p.y0 y' h'.left h'.bottom in omega arith;
      }

  -- where the result at the upper right stays in the band, it is the greatest of all hits
  pub at_top : (x y r e : ℕ) → Hit f p x y → e + 1 ≡ p.x1 → r ≡ f e p.y1 → r < p.end → Greatest f p r
  at_top x y r e h last is below =
      let over : f x y ≤ f e p.y1 = rises x e y p.y1 (omega (arith, h.right)) h.top in
      record {
        met = (e, p.y1, record { left = omega (arith, p.across); right = omega arith; bottom = p.upward; top = omega arith; from = omega (arith, h.from); below = omega arith }, sym is);
        greatest = λ x' y' h'. let up : f x' y' ≤ f e p.y1 = rises x' e y' p.y1 (omega (arith, h'.right)) h'.top in omega arith;
      }

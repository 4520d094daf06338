-- The walks by which the smallest box is found. Ends of walks are exclusive: a code before `end` counts, `end` does not.
-- Assumes nothing.
use Rattle.std.specs.Prelude.{◌≡◌, ℕ, ◌<◌, ◌≤◌, Some, None, Option}
use Rattle.boxes.specs.declared.field.Field.{Field}
use Rattle.boxes.specs.declared.field.Point.{Point}

-- r is the first place from `from` on, and before `end`, at which F has come to t; or `end` where there is none.
pub record Reaches (F : ℕ → ℕ) (from end t r : ℕ) : Type 0 where
  pub low : from ≤ r
  pub high : r ≤ end
  pub before : (k : ℕ) → from ≤ k → k < r → F k < t
  pub at : r < end → t ≤ F r

-- The point x, y lies in the field, and its result in the band.
pub record Hit (f : ℕ → ℕ → ℕ) (p : Field) (x y : ℕ) : Type 0 where
  pub left : p.x0 ≤ x
  pub right : x < p.x1
  pub bottom : p.y0 ≤ y
  pub top : y ≤ p.y1
  pub from : p.lo ≤ f x y
  pub below : f x y < p.end

-- Every hit lies at x or right of it, and at y or below it.
abbrev pub Bounds : (ℕ → ℕ → ℕ) → Field → ℕ → ℕ → Type 0
Bounds f p x y = (x' y' : ℕ) → Hit f p x' y' → (x ≤ x') × (y' ≤ y)

-- A hit with the least first and the greatest second code of all hits.
pub record Corner (f : ℕ → ℕ → ℕ) (p : Field) (at : Point) : Type 0 where
  pub hit : Hit f p at.x at.y
  pub bounds : Bounds f p at.x at.y
  pub code : at.code ≡ f at.x at.y

-- No hit at all, or the corner.
abbrev pub Cornered : (ℕ → ℕ → ℕ) → Field → Option Point → Type 0
Cornered f p None = (x y : ℕ) → Hit f p x y → ⊥
Cornered f p (Some at) = Corner f p at

-- The hit r has the first code of the hit at, and none below it does.
pub record Lowest (f : ℕ → ℕ → ℕ) (p : Field) (at r : Point) : Type 0 where
  pub first : r.x ≡ at.x
  pub second : r.y ≤ at.y
  pub hit : Hit f p r.x r.y
  pub code : r.code ≡ f r.x r.y
  pub lowest : (y : ℕ) → Hit f p at.x y → r.y ≤ y

-- The hit r has the second code of the hit at, and none right of it does.
pub record Rightmost (f : ℕ → ℕ → ℕ) (p : Field) (at r : Point) : Type 0 where
  pub first : at.x ≤ r.x
  pub second : r.y ≡ at.y
  pub hit : Hit f p r.x r.y
  pub code : r.code ≡ f r.x r.y
  pub rightmost : (x : ℕ) → Hit f p x at.y → x ≤ r.x

-- r is the result of some hit.
abbrev pub Met : (ℕ → ℕ → ℕ) → Field → ℕ → Type 0
Met f p r = (x : ℕ) × (y : ℕ) × Hit f p x y × (f x y ≡ r)

-- r is the least result of all hits.
pub record Least (f : ℕ → ℕ → ℕ) (p : Field) (r : ℕ) : Type 0 where
  pub met : Met f p r
  pub least : (x y : ℕ) → Hit f p x y → r ≤ f x y

-- r is the greatest result of all hits.
pub record Greatest (f : ℕ → ℕ → ℕ) (p : Field) (r : ℕ) : Type 0 where
  pub met : Met f p r
  pub greatest : (x y : ℕ) → Hit f p x y → f x y ≤ r

-- The point lies within the sides of the field.
pub record Inner (p : Field) (at : Point) : Type 0 where
  pub right : at.x < p.x1
  pub bottom : p.y0 ≤ at.y
  pub top : at.y ≤ p.y1

-- q is the part of the field p right of and below the point, with the results from lo before end.
pub record Part (p : Field) (at : Point) (lo end : ℕ) (q : Field) : Type 0 where
  pub x0 : q.x0 ≡ at.x
  pub x1 : q.x1 ≡ p.x1
  pub y0 : q.y0 ≡ p.y0
  pub y1 : q.y1 ≡ at.y
  pub lo_is : q.lo ≡ lo
  pub end_is : q.end ≡ end

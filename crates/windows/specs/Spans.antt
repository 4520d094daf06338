-- A window by its two ends, and what lies in it.
-- Assumes nothing.
use Rattle.std.specs.Prelude.{ℕ, ◌≤◌, List, [], ◌∷◌}

-- The lower and the upper end of a window.
pub record Span : Type 0 where
  pub lo : ℕ
  pub hi : ℕ

-- The code x lies in w.
pub record In (w : Span) (x : ℕ) : Type 0 where
  pub from : w.lo ≤ x
  pub to : x ≤ w.hi

-- v lies within w: its ends do not pass those of w.
pub record Inside (v w : Span) : Type 0 where
  pub from : w.lo ≤ v.lo
  pub to : v.hi ≤ w.hi

-- Each of the codes xs lies in the window at its own place of ws, and there are as many.
abbrev pub Each : List Span → List ℕ → Type 0
Each [] [] = Unit {0}
Each [] (x ∷ xs) = ⊥
Each (w ∷ ws) [] = ⊥
Each (w ∷ ws) (x ∷ xs) = In w x × Each ws xs

-- Every member of a list is so.
abbrev pub Every : {A : Type 0} → (A → Type 0) → List A → Type 0
Every P [] = Unit {0}
Every P (x ∷ xs) = P x × Every P xs

-- The lower end is not above the upper.
abbrev pub Ordered : Span → Type 0
Ordered w = w.lo ≤ w.hi

-- The windows vs lie within the windows ws: as many, each inside the one at its place.
abbrev pub Within : List Span → List Span → Type 0
Within [] [] = Unit {0}
Within [] (w ∷ ws) = ⊥
Within (v ∷ vs) [] = ⊥
Within (v ∷ vs) (w ∷ ws) = Inside v w × Within vs ws

-- A place where no window is.
abbrev pub nowhere : Span
nowhere = record { lo = 0; hi = 0 }

-- The smallest box of an operation f over three intervals of codes.
-- A choice is a code of the first, a code of the second and a code of the third interval, the third being f of the first two.
-- Assumes nothing.
use Rattle.std.specs.Prelude.{◌≡◌, ℕ, ◌≤◌, Some, None, Option}
use Rattle.boxes.specs.declared.interval.Interval.{Interval}
use Rattle.boxes.specs.declared.triple.Triple.{Triple}

-- The code x lies in the interval w.
pub record In (w : Interval) (x : ℕ) : Type 0 where
  pub from : w.lo ≤ x
  pub to : x ≤ w.hi

pub record Choice (f : ℕ → ℕ → ℕ) (a b c : Interval) (x y z : ℕ) : Type 0 where
  pub first : In a x
  pub second : In b y
  pub third : In c z
  pub result : f x y ≡ z

-- Some choice has x for its first code; y for its second; z for its third.
abbrev pub First : (ℕ → ℕ → ℕ) → Interval → Interval → Interval → ℕ → Type 0
First f a b c x = (y : ℕ) × (z : ℕ) × Choice f a b c x y z

abbrev pub Second : (ℕ → ℕ → ℕ) → Interval → Interval → Interval → ℕ → Type 0
Second f a b c y = (x : ℕ) × (z : ℕ) × Choice f a b c x y z

abbrev pub Third : (ℕ → ℕ → ℕ) → Interval → Interval → Interval → ℕ → Type 0
Third f a b c z = (x : ℕ) × (y : ℕ) × Choice f a b c x y z

-- The code triple x, y, z lies in the box.
pub record Lies (box : Triple Interval) (x y z : ℕ) : Type 0 where
  pub first : In box.a x
  pub second : In box.b y
  pub third : In box.c z

-- The box holds every choice, and each of its six ends belongs to one.
pub record Smallest (f : ℕ → ℕ → ℕ) (a b c : Interval) (box : Triple Interval) : Type 0 where
  pub holds : (x y z : ℕ) → Choice f a b c x y z → Lies box x y z
  pub first_lo : First f a b c box.a.lo
  pub first_hi : First f a b c box.a.hi
  pub second_lo : Second f a b c box.b.lo
  pub second_hi : Second f a b c box.b.hi
  pub third_lo : Third f a b c box.c.lo
  pub third_hi : Third f a b c box.c.hi

-- What is answered: nothing exactly where there is no choice, else the smallest box.
abbrev pub Closed : (ℕ → ℕ → ℕ) → Interval → Interval → Interval → Option (Triple Interval) → Type 0
Closed f a b c None = (x y z : ℕ) → Choice f a b c x y z → ⊥
Closed f a b c (Some box) = Smallest f a b c box

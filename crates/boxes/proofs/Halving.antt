-- What a search keeps true while it closes in on the place where a row of results comes to t. Assumes nothing.
use Rattle.std.proofs.Common.{◌≡◌, ℕ, ◌+◌, ◌-◌, ◌<◌, ◌≤◌, le_refl, arith}
use native.Mathlib.Decide.{dec_le}
use Rattle.codes.specs.Operations.{Rises}
use Rattle.boxes.specs.Walks.{Reaches}

-- Below `low` the row F has not come to t; at `high`, unless that is the end, it has.
pub record Halving (F : ℕ → ℕ) (from end t low high : ℕ) : Type 0 where
  pub start : from ≤ low
  pub order : low ≤ high
  pub stop : high ≤ end
  pub before : (k : ℕ) → from ≤ k → k < low → F k < t
  pub at : high < end → t ≤ F high

-- F does not fall.
abbrev pub Row : (ℕ → ℕ) → Type 0
Row F = (k k' : ℕ) → k ≤ k' → F k ≤ F k'

-- The results with a fixed first argument are such a row.
pub row : (f : ℕ → ℕ → ℕ) → Rises f → (x : ℕ) → Row (f x)
row f rises x k k' h = rises x x k k' (le_refl x) h

module _ (F : ℕ → ℕ) (grows : Row F) (from end t : ℕ) where
  -- nothing is known yet
  pub whole : from ≤ end → Halving F from end t from end
  whole h = record { start = omega arith; order = h; stop = omega arith; before = λ k a b. omega arith; at = λ l. omega arith }

  -- at m the row is still below t
  pub above : (low high m : ℕ) → Halving F from end t low high → low ≤ m → m < high → F m < t → Halving F from end t (m + 1) high
  above low high m h l r b = record {
    start = omega arith;
    order = omega arith;
    stop = h.stop;
    before = λ k s e. let up : F k ≤ F m = grows k m (omega arith) in omega arith;
    at = h.at;
  }

  -- at m the row has come to t
  pub under : (low high m : ℕ) → Halving F from end t low high → low ≤ m → m < high → t ≤ F m → Halving F from end t low m
  under low high m h l r b = record { start = h.start; order = l; stop = omega arith; before = h.before; at = λ e. b }

  -- the two have met
  pub met : (low high : ℕ) → Halving F from end t low high → high ≤ low → Reaches F from end t low
  met low high h e = record {
    low = h.start;
    high = omega arith;
    before = h.before;
    at = λ l. let s : low ≡ high = omega arith in rw s (h.at (omega arith));
  }

  -- a search between the two finishes the whole
  pub finished : (low high r : ℕ) → Halving F from end t low high → Reaches F low high t r → Reaches F from end t r
  finished low high r h s = record {
    low = omega arith;
    high = omega arith;
    before = λ k a b. elim (dec_le low k) [ yes l ↦ s.before k l b | no l ↦ h.before k a (omega arith) ];
    at = λ l. elim (dec_le high r) [ yes m ↦ (let e : r ≡ high = omega arith in rw e (h.at (omega arith))) | no m ↦ s.at (omega arith) ];
  }

  -- a place before which the row is below t, and at which it has come to t
  pub tried : (k : ℕ) → from ≤ k → k ≤ end → (from < k → F (k - 1) < t) → (k < end → t ≤ F k) → Reaches F from end t k
  tried k l h short far = record {
    low = l;
    high = h;
    before = λ j a b. let up : F j ≤ F (k - 1) = grows j (k - 1) (omega arith) in omega (arith, short (omega arith));
    at = far;
  }

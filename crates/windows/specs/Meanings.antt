-- What a book means: how many lines each kind names, and which codes of them satisfy it.
-- Assumes nothing.
use Rattle.std.specs.Prelude.{◌≡◌, ℕ, ◌⊎◌, List}

-- A kind that the book has not got names 0 lines, any other 2 or 3.
abbrev pub Counts : (ℕ → ℕ) → Type 0
Counts arity = (kind : ℕ) → (arity kind ≡ 0) ⊎ ((arity kind ≡ 2) ⊎ (arity kind ≡ 3))

pub record Meaning : Type 1 where
  pub top : ℕ
  pub arity : ℕ → ℕ
  pub related : ℕ → List ℕ → Type 0
  pub counts : Counts arity

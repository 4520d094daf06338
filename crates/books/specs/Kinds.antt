-- The rule kinds: their numbers, how many lines each names, and which codes satisfy it.
--   kind      2 travel, 3 sum, 4 later, 5 not after; any other number names no kind
--   kinds     the set of kinds that a book has: at the place of each number, whether the book has that kind
--   lines     how many lines a rule of the kind names: 3, or 2 for not after
--   meets     what the codes of those lines have to be to each other
-- Product and sum are those of a drive; the later of two codes is the greater one up to the drive's top.
-- Assumes nothing.
use Rattle.std.specs.Prelude.{◌≡◌, ℕ, ◌≤◌, Bool, true, false, cond, ◌⊎◌, List, [], ◌∷◌, ◌<◌, ◌↔◌, Some, None, Option, MatchResult, Result, ◌==◌, slice_index_or, refl}
use Rattle.std.proofs.Common.{inl, inr, rules}
use Rattle.codes.specs.Operations.{later}
use Rattle.windows.specs.Meanings.{Counts}
use Rattle.books.specs.declared.kind.Kind.{Kind}
use Rattle.books.specs.declared.kind.Kind.TheVariants.{Travel, Sum, Later, NotAfter}
use Rattle.books.specs.declared.kind.UnknownKind.{UnknownKind}

-- The kind of a number.
abbrev pub numbered : ℕ → Option Kind
numbered n = cond (n == 2) (Some Travel) (cond (n == 3) (Some Sum) (cond (n == 4) (Some Later) (cond (n == 5) (Some NotAfter) None)))

-- What a number is read as: the kind that has it, if one has.
abbrev pub Decodes : ℕ → Result Kind UnknownKind → Type 0
Decodes n r = MatchResult r (λ kind. numbered n ≡ Some kind) (λ e. (e.0 ≡ n) × (numbered n ≡ None))

-- The kind of a number among those that a book has: `kinds` says by its place whether the number is one of them.
abbrev pub among : List Bool → ℕ → Option Kind
among kinds n = cond (slice_index_or kinds n false) (numbered n) None

-- The kinds 2 to 5, by their places.
abbrev pub two_to_five : List Bool
two_to_five = false ∷ false ∷ true ∷ true ∷ true ∷ true ∷ false ∷ false ∷ []

-- How many lines a kind names.
abbrev pub lines : Kind → ℕ
lines Travel = 3
lines Sum = 3
lines Later = 3
lines NotAfter = 2

-- The same where there may be no kind: none names no lines.
abbrev pub lines_of : Option Kind → ℕ
lines_of None = 0
lines_of (Some k) = lines k

-- So a kind that a book has names 2 or 3 lines, and any other none.
counted_of : (k : Option Kind) → (lines_of k ≡ 0) ⊎ ((lines_of k ≡ 2) ⊎ (lines_of k ≡ 3))
counted_of None = inl refl
counted_of (Some Travel) = inr (inr refl)
counted_of (Some Sum) = inr (inr refl)
counted_of (Some Later) = inr (inr refl)
counted_of (Some NotAfter) = inr (inl refl)

pub counted : (kinds : List Bool) → Counts (λ n. lines_of (among kinds n))
counted kinds n = counted_of (among kinds n)

-- The third of three codes is what the operation f makes of the first two.
abbrev pub Made : (ℕ → ℕ → ℕ) → List ℕ → Type 0
Made f [] = ⊥
Made f (x ∷ []) = ⊥
Made f (x ∷ y ∷ []) = ⊥
Made f (x ∷ y ∷ z ∷ []) = f x y ≡ z
Made f (x ∷ y ∷ z ∷ w ∷ rest) = ⊥

-- The first of two codes is not above the second.
abbrev pub IsNotAfter : List ℕ → Type 0
IsNotAfter [] = ⊥
IsNotAfter (x ∷ []) = ⊥
IsNotAfter (x ∷ y ∷ []) = x ≤ y
IsNotAfter (x ∷ y ∷ z ∷ rest) = ⊥

-- What the codes of a rule's lines have to meet, with a drive's product, sum and top.
abbrev pub Meets : (ℕ → ℕ → ℕ) → (ℕ → ℕ → ℕ) → ℕ → Kind → List ℕ → Type 0
Meets product sum top Travel = Made product
Meets product sum top Sum = Made sum
Meets product sum top Later = Made (later top)
Meets product sum top NotAfter = IsNotAfter

-- The same where there may be no kind, which nothing meets.
abbrev pub MeetsOf : (ℕ → ℕ → ℕ) → (ℕ → ℕ → ℕ) → ℕ → Option Kind → List ℕ → Type 0
MeetsOf product sum top None xs = ⊥
MeetsOf product sum top (Some k) xs = Meets product sum top k xs

-- Of the kinds 2 to 5, those that name lines are those that are there.
pub known : (kind : ℕ) → (slice_index_or two_to_five kind false ≡ true) ↔ (0 < lines_of (among two_to_five kind))
known kind = Prim.search rules

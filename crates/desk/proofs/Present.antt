-- What is done to the last of the sheets.
use Rattle.std.proofs.Common.{◌≡◌, ℕ, zero, suc, ◌+◌, List, [], ◌∷◌, ◌++◌, length, get_or, set, take, sym, refl, ap, arith}
use Rattle.desk.specs.declared.tended.Tended.{Tended}
use Rattle.desk.specs.Plays.{OnPresent, present}

-- A list is the items before its last one, and that one.
parted : (xs : List Tended) (n : ℕ) (x : Tended) → n + 1 ≡ length xs → x ≡ get_or xs n x → xs ≡ take n xs ++ (x ∷ [])
parted [] n x e h = absurd (omega arith)
parted (y ∷ []) zero x e h = ap (λ (z : Tended). z ∷ []) (sym h)
parted (y ∷ (z ∷ zs)) zero x e h = absurd (omega arith)
parted (y ∷ ys) (suc n) x e h = ap (λ (l : List Tended). y ∷ l) (parted ys n x (omega arith) h)

-- With another last one, it is the same items before, and that one.
replaced : (xs : List Tended) (n : ℕ) (y : Tended) → n + 1 ≡ length xs → set xs n y ≡ take n xs ++ (y ∷ [])
replaced [] n y e = absurd (omega arith)
replaced (x ∷ []) zero y e = refl
replaced (x ∷ (z ∷ zs)) zero y e = absurd (omega arith)
replaced (x ∷ xs) (suc n) y e = ap (λ (l : List Tended). x ∷ l) (replaced xs n y (omega arith))

-- What is done to the last sheet is done to the present one.
pub on_last :
    {Done : Tended → Tended → Type 0} {Absent : Type 0} (ts : List Tended) (n : ℕ) (p q : Tended) → n + 1 ≡ length ts → p ≡ get_or ts n p → Done p q →
    OnPresent Done Absent ts (set ts n q)
on_last ts n p q e h d = present (take n ts) p q (parted ts n p e h) (replaced ts n q e) d

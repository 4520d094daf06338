-- Windows inside windows, lists of windows within lists, and what holds of every member of a list.
-- Assumes nothing.
use Rattle.std.proofs.Common.{◌≡◌, ℕ, zero, suc, ◌<◌, List, [], ◌∷◌, ◌++◌, length, get_or, set, refl, ap, ap₂, suc-le-suc, zero-le, le_refl, arith}
use Rattle.windows.specs.Spans.{Span, In, Inside, Each, Every, Within, nowhere}

-- A window lies inside itself.
pub inside_refl : (w : Span) → Inside w w
inside_refl w = record { from = le_refl w.lo; to = le_refl w.hi }

-- Inside what lies inside.
pub inside_trans : (u v w : Span) → Inside u v → Inside v w → Inside u w
inside_trans u v w p q = record { from = omega arith; to = omega arith }

-- Two windows, each inside the other, are equal.
pub inside_antisym : (v w : Span) → Inside v w → Inside w v → v ≡ w
inside_antisym v w p q =
    let lo : v.lo ≡ w.lo = omega arith in
    let hi : v.hi ≡ w.hi = omega arith in
    λ i. record { lo = lo i; hi = hi i }

-- A code of a window lies in what the window lies inside.
pub in_inside : (v w : Span) (x : ℕ) → Inside v w → In v x → In w x
in_inside v w x p q = record { from = omega arith; to = omega arith }

-- A box lies within itself.
pub within_refl : (ws : List Span) → Within ws ws
within_refl [] = tt
within_refl (w ∷ ws) = (inside_refl w, within_refl ws)

-- Within what lies within.
pub within_trans : (us vs ws : List Span) → Within us vs → Within vs ws → Within us ws
within_trans [] [] [] p q = tt
within_trans [] [] (w ∷ ws) p q = elim q [ ]
within_trans [] (v ∷ vs) ws p q = elim p [ ]
within_trans (u ∷ us) [] ws p q = elim p [ ]
within_trans (u ∷ us) (v ∷ vs) [] p q = elim q [ ]
within_trans (u ∷ us) (v ∷ vs) (w ∷ ws) p q = (inside_trans u v w p.0 q.0, within_trans us vs ws p.1 q.1)

-- A box within another has as many windows.
pub within_length : (vs ws : List Span) → Within vs ws → length vs ≡ length ws
within_length [] [] p = refl
within_length [] (w ∷ ws) p = elim p [ ]
within_length (v ∷ vs) [] p = elim p [ ]
within_length (v ∷ vs) (w ∷ ws) p = ap suc (within_length vs ws p.1)

-- Each window lies inside the one at its place.
pub within_at : (vs ws : List Span) (i : ℕ) → Within vs ws → Inside (get_or vs i nowhere) (get_or ws i nowhere)
within_at [] [] i p = inside_refl nowhere
within_at [] (w ∷ ws) i p = elim p [ ]
within_at (v ∷ vs) [] i p = elim p [ ]
within_at (v ∷ vs) (w ∷ ws) zero p = p.0
within_at (v ∷ vs) (w ∷ ws) (suc i) p = within_at vs ws i p.1

-- As many windows, each inside the one at its place: within.
pub within_from :
    (vs ws : List Span) → length vs ≡ length ws →
    ((i : ℕ) → i < length vs → Inside (get_or vs i nowhere) (get_or ws i nowhere)) → Within vs ws
within_from [] [] e f = tt
within_from [] (w ∷ ws) e f = let z : ⊥ = omega arith in elim z [ ]
within_from (v ∷ vs) [] e f = let z : ⊥ = omega arith in elim z [ ]
within_from (v ∷ vs) (w ∷ ws) e f =
    let e' : length vs ≡ length ws = omega arith in
    (f zero (suc-le-suc zero-le), within_from vs ws e' (λ i h. f (suc i) (suc-le-suc h)))

-- Two boxes, each within the other, are equal.
pub within_antisym : (vs ws : List Span) → Within vs ws → Within ws vs → vs ≡ ws
within_antisym [] [] p q = refl
within_antisym [] (w ∷ ws) p q = elim p [ ]
within_antisym (v ∷ vs) [] p q = elim p [ ]
within_antisym (v ∷ vs) (w ∷ ws) p q = ap₂ ◌∷◌ (inside_antisym v w p.0 q.0) (within_antisym vs ws p.1 q.1)

-- A window that the one at its place lies inside may be written into the larger box.
pub within_set : (us ws : List Span) (i : ℕ) (v : Span) → Within us ws → Inside (get_or us i nowhere) v → Within us (set ws i v)
within_set [] [] i v p q = tt
within_set [] (w ∷ ws) i v p q = elim p [ ]
within_set (u ∷ us) [] i v p q = elim p [ ]
within_set (u ∷ us) (w ∷ ws) zero v p q = (q, p.1)
within_set (u ∷ us) (w ∷ ws) (suc i) v p q = (p.0, within_set us ws i v p.1 q)

-- A window inside the one at its place may be written into the smaller box.
pub set_within : (us ws : List Span) (i : ℕ) (v : Span) → Within us ws → Inside v (get_or ws i nowhere) → Within (set us i v) ws
set_within [] [] i v p q = tt
set_within [] (w ∷ ws) i v p q = elim p [ ]
set_within (u ∷ us) [] i v p q = elim p [ ]
set_within (u ∷ us) (w ∷ ws) zero v p q = (q, p.1)
set_within (u ∷ us) (w ∷ ws) (suc i) v p q = (p.0, set_within us ws i v p.1 q)

-- Codes from the windows of a box are codes from the windows of what it lies within.
pub each_within : (us ws : List Span) (xs : List ℕ) → Within us ws → Each us xs → Each ws xs
each_within [] [] xs p q = q
each_within [] (w ∷ ws) xs p q = elim p [ ]
each_within (u ∷ us) [] xs p q = elim p [ ]
each_within (u ∷ us) (w ∷ ws) [] p q = q
each_within (u ∷ us) (w ∷ ws) (x ∷ xs) p q = (in_inside u w x p.0 q.0, each_within us ws xs p.1 q.1)

-- Each code lies in the window at its place.
pub each_at : (ws : List Span) (xs : List ℕ) (i : ℕ) → Each ws xs → i < length ws → In (get_or ws i nowhere) (get_or xs i 0)
each_at [] xs i p h = let z : ⊥ = omega arith in elim z [ ]
each_at (w ∷ ws) [] i p h = elim p [ ]
each_at (w ∷ ws) (x ∷ xs) zero p h = p.0
each_at (w ∷ ws) (x ∷ xs) (suc i) p h = each_at ws xs i p.1 (omega arith)

-- What holds of every member holds of the one at a place.
pub every_at : {A : Type 0} (P : A → Type 0) (xs : List A) (i : ℕ) (d : A) → Every P xs → i < length xs → P (get_or xs i d)
every_at P [] i d p h = let z : ⊥ = omega arith in elim z [ ]
every_at P (x ∷ xs) zero d p h = p.0
every_at P (x ∷ xs) (suc i) d p h = every_at P xs i d p.1 (omega arith)

-- What holds at each place holds of every member.
pub every_from : {A : Type 0} (P : A → Type 0) (xs : List A) (d : A) → ((i : ℕ) → i < length xs → P (get_or xs i d)) → Every P xs
every_from P [] d f = tt
every_from P (x ∷ xs) d f = (f zero (suc-le-suc zero-le), every_from P xs d (λ i h. f (suc i) (suc-le-suc h)))

-- What holds of every member and follows.
pub every_map : {A : Type 0} (P Q : A → Type 0) → ((x : A) → P x → Q x) → (xs : List A) → Every P xs → Every Q xs
every_map P Q f [] p = tt
every_map P Q f (x ∷ xs) p = (f x p.0, every_map P Q f xs p.1)

-- Of two lists joined.
pub every_append : {A : Type 0} (P : A → Type 0) (xs ys : List A) → Every P xs → Every P ys → Every P (xs ++ ys)
every_append P [] ys p q = q
every_append P (x ∷ xs) ys p q = (p.0, every_append P xs ys p.1 q)

pub every_left : {A : Type 0} (P : A → Type 0) (xs ys : List A) → Every P (xs ++ ys) → Every P xs
every_left P [] ys p = tt
every_left P (x ∷ xs) ys p = (p.0, every_left P xs ys p.1)

pub every_right : {A : Type 0} (P : A → Type 0) (xs ys : List A) → Every P (xs ++ ys) → Every P ys
every_right P [] ys p = p
every_right P (x ∷ xs) ys p = every_right P xs ys p.1

-- Of a list with one member replaced.
pub every_set : {A : Type 0} (P : A → Type 0) (xs : List A) (i : ℕ) (y : A) → Every P xs → P y → Every P (set xs i y)
every_set P [] i y p q = tt
every_set P (x ∷ xs) zero y p q = (q, p.1)
every_set P (x ∷ xs) (suc i) y p q = (p.0, every_set P xs i y p.1 q)

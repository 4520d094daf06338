-- Where a word begins and ends.
use Rattle.std.proofs.Common.{◌≡◌, ℕ, suc, ◌<◌, ◌≤◌, Bool, true, false, cond, not, eqb, List, [], ◌∷◌, length, take, drop, Some, None, position, nat_lt, unwrap_or, sym, refl, ap, ◌∙◌, inl, inr, arith}
use Rattle.std.specs.List.{position_or_len}
use Rattle.std.proofs.lemmas.List.{length-drop, length-take-le, nil_from_length}
use Rattle.std.proofs.lemmas.List.Recursion.{is_position_or_len}
use Rattle.std.proofs.lemmas.Bool.{cases_Bool, cases_lt, lt-ltb, le-ltb}
use Rattle.commands.specs.Words.{filled, pieces, words}

-- How many bytes from the start on are spaces (true), or are none (false).
unfoldable run : Bool → List ℕ → ℕ
run spaces [] = 0
run true (b ∷ bs) = cond (eqb b 32) (suc (run true bs)) 0
run false (b ∷ bs) = cond (eqb b 32) 0 (suc (run false bs))

-- A run is no longer than the line.
run_within : (spaces : Bool) (l : List ℕ) → run spaces l ≤ length l
unfolding run
run_within true [] = omega arith
run_within false [] = omega arith
run_within true (b ∷ bs) = elim (eqb b 32) as (λ v. cond v (suc (run true bs)) 0 ≤ suc (length bs)) [ true ↦ omega (arith, run_within true bs) | false ↦ omega arith ]
run_within false (b ∷ bs) = elim (eqb b 32) as (λ v. cond v 0 (suc (run false bs)) ≤ suc (length bs)) [ true ↦ omega arith | false ↦ omega (arith, run_within false bs) ]

-- The place of the first byte that is no space, and of the first that is one.
spaces_end : (l : List ℕ) → run true l ≡ position_or_len (λ b. not (eqb b 32)) l
unfolding run
spaces_end l = is_position_or_len (run true) (λ b. not (eqb b 32)) refl
    (λ b bs. elim (cases_Bool (eqb b 32)) [ inl e ↦ rw e (omega arith) | inr e ↦ rw e refl ]) l

letters_end : (l : List ℕ) → run false l ≡ position_or_len (λ b. eqb b 32) l
unfolding run
letters_end l = is_position_or_len (run false) (λ b. eqb b 32) refl
    (λ b bs. elim (cases_Bool (eqb b 32)) [ inl e ↦ rw e refl | inr e ↦ rw e (omega arith) ]) l

-- Spaces at the start hold no word.
words_skip : (l : List ℕ) → words l ≡ words (drop (run true l) l)
unfolding run pieces filled
words_skip [] = refl
words_skip (b ∷ bs) = elim (cases_Bool (eqb b 32)) [ inl e ↦ simp e (words_skip bs) | inr e ↦ simp e ]

-- After them a word begins, unless the line ends.
word_begins : (l : List ℕ) → run true l < length l → 0 < run false (drop (run true l) l)
unfolding run
word_begins [] h = omega arith
word_begins (b ∷ bs) h = elim (cases_Bool (eqb b 32)) [ inl e ↦ simp e (word_begins bs (omega (arith, simp e at h))) | inr e ↦ simp e (omega arith) ]

-- The first piece of a line, and what follows it.
record FirstPiece (l : List ℕ) : Type 0 where
  others : List (List ℕ)
  first : pieces l ≡ take (run false l) l ∷ others
  rest : pieces (drop (run false l) l) ≡ [] ∷ others

first_piece : (l : List ℕ) → FirstPiece l
unfolding run pieces
first_piece [] = record { others = []; first = refl; rest = refl }
first_piece (b ∷ bs) =
    elim (cases_Bool (eqb b 32)) [
      | inl e ↦ record { others = pieces bs; first = simp e; rest = simp e }
      | inr e ↦ record { others = (first_piece bs).others; first = simp (e, (first_piece bs).first); rest = simp e (first_piece bs).rest }
    ]

-- A piece with bytes is a word.
filled_first : (w : List ℕ) (ps : List (List ℕ)) → 0 < length w → filled (w ∷ ps) ≡ w ∷ filled ps
unfolding filled
filled_first [] ps h = absurd (omega arith)
filled_first (b ∷ bs) ps h = refl

-- A line that begins with a word: the word, and the words of what follows it.
words_first : (l : List ℕ) → 0 < run false l → words l ≡ take (run false l) l ∷ words (drop (run false l) l)
unfolding filled
words_first l h =
    let some : 0 < length (take (run false l) l) = rw (length-take-le (run false l) l (run_within false l)) h in
    ap filled (first_piece l).first ∙ filled_first (take (run false l) l) (first_piece l).others some
    ∙ ap (λ (ws : List (List ℕ)). take (run false l) l ∷ ws) (sym (ap filled (first_piece l).rest))

-- What a search for the first of some bytes has found, if it found one, and if it found none.
record FoundAt (n m a : ℕ) : Type 0 where
  is : n ≡ a
  within : n < m

found_at : (n m a : ℕ) → cond (nat_lt n m) (Some n) None ≡ Some a → FoundAt n m a
found_at n m a e =
    elim (cases_lt n m) [
      | inl h ↦ let f : Some n ≡ Some a = rw (lt-ltb n m h) at e in record { is = cc; within = h }
      | inr h ↦ let f : None ≡ Some a = rw (le-ltb n m h) at e in absurd (cc)
    ]

found_none : (n m : ℕ) → cond (nat_lt n m) (Some n) None ≡ None → m ≤ n
found_none n m e =
    elim (cases_lt n m) [
      | inl h ↦ let f : Some n ≡ None = rw (lt-ltb n m h) at e in absurd (cc)
      | inr h ↦ h
    ]

found_or : (n m : ℕ) → n ≤ m → unwrap_or (cond (nat_lt n m) (Some n) None) m ≡ n
found_or n m h =
    elim (cases_lt n m) [
      | inl f ↦ rw (lt-ltb n m f)
      | inr f ↦ rw (le-ltb n m f) (omega arith)
    ]

-- Nothing but spaces: no word.
pub no_word : (l : List ℕ) → position (λ b. not (eqb b 32)) l ≡ None → words l ≡ []
unfolding pieces filled
no_word l e =
    let none : length l ≤ run true l = omega (arith, spaces_end l, found_none _ _ e) in
    words_skip l ∙ ap words (nil_from_length (drop (run true l) l) (omega (arith, length-drop (run true l) l)))

-- And else: the first word, and the words of what follows it.
pub first_word : (l tail w rest : List ℕ) (a b : ℕ) → position (λ b. not (eqb b 32)) l ≡ Some a → tail ≡ drop a l
    → b ≡ unwrap_or (position (λ b. eqb b 32) tail) (length tail) → w ≡ take b tail → rest ≡ drop b tail → words l ≡ w ∷ words rest
first_word l tail w rest a b e t f g h =
    let found = found_at _ _ _ e in
    let start : a ≡ run true l = sym found.is ∙ sym (spaces_end l) in
    let long : run true l < length l = omega (arith, spaces_end l, found.within) in
    let end : b ≡ run false tail = f ∙ ap (λ n. unwrap_or (cond (nat_lt n (length tail)) (Some n) None) (length tail)) (sym (letters_end tail)) ∙ found_or _ _ (run_within false tail) in
    let begins : 0 < run false tail = rw (t, start) (word_begins l long) in
    words_skip l ∙ rw (← start, ← t) (rw (g, h, end) (words_first tail begins))

-- What a loop over the digits of a word has seen.
use Rattle.std.proofs.Common.{◌≡◌, ℕ, ◌+◌, ◌-◌, ◌*◌, ◌<◌, ◌≤◌, true, ◌&&◌, List, [], ◌∷◌, length, get_or, drop, Some, None, sym, ◌∙◌, le_refl, arith, rules}
use Rattle.std.specs.Char.{is_ascii_digit}
use Rattle.std.proofs.lemmas.List.{at_drop_more, at_drop_all}
use Rattle.std.proofs.lemmas.Bool.{le-leb, lt-leb}
use Rattle.commands.specs.Numbers.{is_decimal, small, spells}

-- One more digit: what it and those after it spell stays.
pub spells_more : (n all : ℕ) (w : List ℕ) (i : ℕ) → i < length w → spells n (drop i w) ≡ all
    → spells (n * 10 + (get_or w i 0 - 48)) (drop (i + 1) w) ≡ all
unfolding spells
spells_more n all w i h e = sym (at_drop_more (spells n) w i 0 h) ∙ e

-- No more digits.
pub spells_all : (n : ℕ) (w : List ℕ) (i : ℕ) → length w ≤ i → spells n (drop i w) ≡ n
unfolding spells
spells_all n w i h = at_drop_all (spells n) w i h

-- More digits never spell less.
spells_grows : (n : ℕ) (bs : List ℕ) → n ≤ spells n bs
unfolding spells
spells_grows n [] = le_refl n
spells_grows n (b ∷ bs) = omega (arith, spells_grows (n * 10 + (b - 48)) bs)

-- What is too much so far is too much in the end.
pub grown : {m n : ℕ} (bs ds : List ℕ) → m < n → spells n bs ≡ spells 0 ds → m < spells 0 ds
grown {n = n} bs ds h e = omega (arith, spells_grows n bs)

-- A decimal digit at i, and decimal digits after it.
pub record DigitAt (w : List ℕ) (i : ℕ) : Type 0 where
  pub low : 48 ≤ get_or w i 0
  pub high : get_or w i 0 ≤ 57
  pub others : is_decimal (drop (i + 1) w) ≡ true

pub digit_at : (w : List ℕ) (i : ℕ) → i < length w → is_decimal (drop i w) ≡ true → DigitAt w i
digit_at w i h all =
    let e : (is_ascii_digit (get_or w i 0) && is_decimal (drop (i + 1) w)) ≡ true = sym (at_drop_more is_decimal w i 0 h) ∙ all in
    record { low = search rules; high = search rules; others = search rules }

-- What is small, and what is not.
pub small_yes : (n m : ℕ) → n ≡ m → n ≤ 4294967295 → Some n ≡ small m
small_yes n m e h = rw (← e, le-leb n 4294967295 h)

pub small_no : (m : ℕ) → 4294967295 < m → None ≡ small m
small_no m h = rw (lt-leb m 4294967295 h)

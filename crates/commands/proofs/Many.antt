-- Several numbers, one after another, and the last word of a line.
use Rattle.std.proofs.Common.{◌≡◌, ℕ, suc, ◌+◌, ◌-◌, ◌<◌, ◌≤◌, List, [], ◌∷◌, ◌++◌, length, take, Some, None, Ok, Err, Option, Result, unwrap_or, map, Bor, sym, refl, ap, ◌∙◌, append_assoc, arith}
use Rattle.std.specs.List.{last_or}
use Rattle.std.specs.Option.{option_map}
use Rattle.std.proofs.Math.ListN.{set}
use Rattle.std.proofs.lemmas.List.{append-nil, take_all, take_more_set}
use Rattle.commands.specs.declared.command.Unreadable.{Unreadable}
use Rattle.commands.specs.Meaning.{and_then, end, next_number, numbers}

-- What is read where these are read already.
abbrev pub after : List ℕ → Result (List ℕ) Unreadable → Result (List ℕ) Unreadable
after read r = and_then r (λ ns. Ok (read ++ ns))

after-nil : (r : Result (List ℕ) Unreadable) → after [] r ≡ r
after-nil (Ok ns) = refl
after-nil (Err why) = refl

after-cons : (read : List ℕ) (n : ℕ) (r : Result (List ℕ) Unreadable)
    → after read (and_then r (λ ns. Ok (n ∷ ns))) ≡ after (read ++ (n ∷ [])) r
after-cons read n (Ok ns) = ap Ok (sym (append_assoc read (n ∷ []) ns))
after-cons read n (Err why) = refl

-- None is read yet.
pub numbers_first : (n : ℕ) (ws : List (List ℕ)) → numbers n ws ≡ after [] (numbers (n - 0) ws)
numbers_first n ws = let e : n - 0 ≡ n = omega arith in rw e (sym (after-nil (numbers n ws)))

-- One more.
pub numbers_more : (n i x : ℕ) (ws vs : List (List ℕ)) (xs : List ℕ) (all : Result (List ℕ) Unreadable) → i < n → i < length xs → next_number ws ≡ Ok (x, vs)
    → all ≡ after (take i xs) (numbers (n - i) ws) → all ≡ after (take (i + 1) (set xs i x)) (numbers (n - (i + 1)) vs)
unfolding numbers
numbers_more n i x ws vs xs all h k e inv =
    let step : n - i ≡ suc (n - (i + 1)) = omega arith in
    inv ∙ rw (step, e, take_more_set xs i x k) (after-cons (take i xs) x (numbers (n - (i + 1)) vs))

-- One that cannot be read.
pub numbers_unread : (n i : ℕ) (ws : List (List ℕ)) (xs : List ℕ) (all : Result (List ℕ) Unreadable) (why : Unreadable) → i < n → next_number ws ≡ Err why
    → all ≡ after (take i xs) (numbers (n - i) ws) → Err why ≡ all
unfolding numbers
numbers_unread n i ws xs all why h e inv =
    let step : n - i ≡ suc (n - (i + 1)) = omega arith in
    sym (inv ∙ rw (step, e))

-- All are read, and no word is left, or one is.
pub numbers_all : (n i : ℕ) (ws : List (List ℕ)) (xs : List ℕ) (all : Result (List ℕ) Unreadable) → n ≤ i → length xs ≤ i → Ok tt ≡ end ws
    → all ≡ after (take i xs) (numbers (n - i) ws) → Ok xs ≡ all
unfolding numbers
numbers_all n i ws xs all h k e inv =
    let step : n - i ≡ 0 = omega arith in
    sym (inv ∙ rw (step, ← e, take_all i xs k) (ap Ok (append-nil xs)))

pub numbers_over : (n i : ℕ) (ws : List (List ℕ)) (xs : List ℕ) (all : Result (List ℕ) Unreadable) (why : Unreadable) → n ≤ i → Err why ≡ end ws
    → all ≡ after (take i xs) (numbers (n - i) ws) → Err why ≡ all
unfolding numbers
numbers_over n i ws xs all why h e inv =
    let step : n - i ≡ 0 = omega arith in
    sym (inv ∙ rw (step, ← e))

-- The last word is that of the words, behind their references.
last_now : (o : Option (Bor (List ℕ))) (none : Bor (List ℕ)) (ws : List (Bor (List ℕ)))
    → (unwrap_or (last_or o ws) none).now ≡ unwrap_or (last_or (option_map (λ w. w.now) o) (map (λ w. w.now) ws)) none.now
last_now None none [] = refl
last_now (Some w) none [] = refl
last_now o none (w ∷ ws) = last_now (Some w) none ws

pub last_word : (o : Option (Bor (List ℕ))) (none w : Bor (List ℕ)) (ws : List (Bor (List ℕ))) → w ≡ unwrap_or o none → o ≡ last_or None ws
    → w.now ≡ unwrap_or (last_or None (map (λ v. v.now) ws)) none.now
last_word o none w ws e f = ap (λ v. v.now) (e ∙ ap (λ x. unwrap_or x none) f) ∙ last_now None none ws

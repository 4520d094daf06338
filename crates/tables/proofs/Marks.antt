-- Marks as rules and tries come and go. Assumes nothing.
use Rattle.std.proofs.Common.{◌≡◌, ℕ, zero, suc, ◌+◌, ◌<◌, ◌≤◌, min, List, [], ◌∷◌, ◌++◌, map, reverse, length, get_or, take, Some, None, Option, sym, refl, ap, ◌∙◌, subst, ap₂, subst₂, suc-le-suc, zero-le, le_refl, arith}
use native.Mathlib.Decide.{dec_le}
use mathlib.Core.List.{map-append}
use Rattle.std.proofs.lemmas.List.{append-nil, get_or_append_left, get_or_past, get_or_default, reverse-append, take-take, take-append-le}
use Rattle.std.specs.Option.{option_to_list}
use Rattle.windows.specs.Spans.{Every}
use Rattle.windows.proofs.Spans.{every_map, every_right}
use Rattle.law.specs.declared.calls.Rule.{Rule}
use Rattle.law.specs.Sheets.{Core}
use Rattle.tables.specs.declared.mark.Mark.{Mark}
use Rattle.tables.specs.Marks.{counts, Nested}
use Rattle.tables.specs.Views.{found}

-- One more number at the end, which is the one that stands past the end: nothing changes.
past_more : (cs : List ℕ) (n i : ℕ) → get_or (cs ++ (n ∷ [])) i n ≡ get_or cs i n
past_more [] n zero = refl
past_more [] n (suc i) = refl
past_more (c ∷ cs) n zero = refl
past_more (c ∷ cs) n (suc i) = past_more cs n i

-- The last number taken off, and standing past the end from now on; k is i, but no place past the end.
past_less : (cs : List ℕ) (x n i k : ℕ) → k ≡ min i (length cs) → get_or cs i x ≡ get_or (cs ++ (x ∷ [])) k n
past_less [] x n i zero e = refl
past_less [] x n i (suc k) e = let z : ⊥ = omega arith in absurd z
past_less (c ∷ cs) x n zero zero e = refl
past_less (c ∷ cs) x n zero (suc k) e = let z : ⊥ = omega arith in absurd z
past_less (c ∷ cs) x n (suc i) zero e = let z : ⊥ = omega arith in absurd z
past_less (c ∷ cs) x n (suc i) (suc k) e = past_less cs x n i k (omega arith)

-- Every mark has at most as many rules as the sheet.
pub up_to : (n : ℕ) (ms : List Mark) → Nested n ms → Every (λ (m : Mark). m.rules ≤ n) ms
up_to n [] h = tt
up_to n (m ∷ ms) h = (
  subst (λ (k : ℕ). m.rules ≤ k) (get_or_past (counts (m ∷ ms)) (length (counts (m ∷ ms))) n (le_refl _)) (h 0 (length (counts (m ∷ ms))) zero-le),
  up_to n ms (λ i j l. h (suc i) (suc j) (suc-le-suc l)),
)

-- No number of rules is above that of the sheet.
below : (cs : List ℕ) (n : ℕ) → ((i j : ℕ) → i ≤ j → get_or cs i n ≤ get_or cs j n) → (i : ℕ) → get_or cs i n ≤ n
below cs n h i =
    subst (λ (k : ℕ). get_or cs i n ≤ k) (get_or_past cs (i + length cs) n (omega arith)) (h i (i + length cs) (omega arith))

-- a rule is added
pub nested_rule : (n : ℕ) (ms : List Mark) → Nested n ms → Nested (n + 1) ms
nested_rule n ms h i j l = elim (dec_le (length (counts ms)) j) [
  | yes past ↦ rw (get_or_past (counts ms) j (n + 1) past) (bounded i)
  | no inner ↦ subst₂ ◌≤◌ (get_or_default (counts ms) i n (n + 1) (omega arith)) (get_or_default (counts ms) j n (n + 1) (omega arith)) (h i j l)
]
  where
    bounded : (i : ℕ) → get_or (counts ms) i (n + 1) ≤ n + 1
    bounded i = elim (dec_le (length (counts ms)) i) [
      | yes past ↦ rw (get_or_past (counts ms) i (n + 1) past) (le_refl (n + 1))
      | no inner ↦ subst (λ (k : ℕ). k ≤ n + 1) (get_or_default (counts ms) i n (n + 1) (omega arith)) (let b : get_or (counts ms) i n ≤ n = below (counts ms) n h i in omega arith)
    ]

-- a try is opened
pub nested_open : (ms : List Mark) (k : Mark) → Nested k.rules ms → Nested k.rules (ms ++ (k ∷ []))
nested_open ms k h i j l =
    let same : (i : ℕ) → get_or (counts (ms ++ (k ∷ []))) i k.rules ≡ get_or (counts ms) i k.rules =
    λ i. ap (λ (cs : List ℕ). get_or cs i k.rules) (map-append (λ (m : Mark). m.rules) ms (k ∷ [])) ∙ past_more (counts ms) k.rules i in
    subst₂ ◌≤◌ (sym (same i)) (sym (same j)) (h i j l)

-- the innermost try is struck, and the sheet has the rules that it found
pub nested_strike : (n : ℕ) (ms : List Mark) (k : Mark) → Nested n (ms ++ (k ∷ [])) → Nested k.rules ms
nested_strike n ms k h i j l =
    let was : (i : ℕ) → get_or (counts (ms ++ (k ∷ []))) (min i (length (counts ms))) n ≡ get_or (counts ms) i k.rules =
    λ i. ap (λ (cs : List ℕ). get_or cs (min i (length (counts ms))) n) (map-append (λ (m : Mark). m.rules) ms (k ∷ [])) ∙ sym (past_less (counts ms) k.rules n i (min i (length (counts ms))) refl) in
    subst₂ ◌≤◌ (was i) (was j) (h (min i (length (counts ms))) (min j (length (counts ms))) (omega arith))

-- the innermost try is kept
pub nested_keep : (n : ℕ) (ms : List Mark) (k : Mark) → Nested n (ms ++ (k ∷ [])) → Nested n ms
nested_keep n ms k h i j l = elim (dec_le (length (counts ms)) j) [
  | yes past ↦ rw (get_or_past (counts ms) j n past) (bounded i)
  | no inner ↦ subst₂ ◌≤◌ (sym (front i (omega arith))) (sym (front j (omega arith))) (h i j l)
]
  where
    front : (i : ℕ) → i < length (counts ms) → get_or (counts ms) i n ≡ get_or (counts (ms ++ (k ∷ []))) i n
    front i l = sym (get_or_append_left (counts ms) (k.rules ∷ []) n i l) ∙ ap (λ (cs : List ℕ). get_or cs i n) (sym (map-append (λ (m : Mark). m.rules) ms (k ∷ [])))

    bounded : (i : ℕ) → get_or (counts ms) i n ≤ n
    bounded i = elim (dec_le (length (counts ms)) i) [
      | yes past ↦ rw (get_or_past (counts ms) i n past) (le_refl n)
      | no inner ↦ subst (λ (x : ℕ). x ≤ n) (sym (front i (omega arith))) (below (counts (ms ++ (k ∷ []))) n h i)
    ]

-- Equal at each member: equal lists.
map_same : {A B : Type 0} (f g : A → B) (xs : List A) → Every (λ (x : A). f x ≡ g x) xs → map f xs ≡ map g xs
map_same f g [] h = refl
map_same f g (x ∷ xs) h = ap₂ ◌∷◌ h.0 (map_same f g xs h.1)

-- What a mark brings back, from rules that agree as far as it counts them.
same_found : (rules rules' : List Rule) (m : Mark) → take m.rules rules ≡ take m.rules rules' → found rules m ≡ found rules' m
same_found rules rules' m e = ap (λ (rs : List Rule). found_with m rs) e
  where
    found_with : Mark → List Rule → Core
    found_with m rs = record { state = m.state; windows = (found rules m).windows; rules = rs }

-- One more rule brings back the same.
pub found_rule : (rules : List Rule) (r : Rule) (ms : List Mark) → Nested (length rules) ms → map (found (rules ++ (r ∷ []))) ms ≡ map (found rules) ms
found_rule rules r ms h =
    map_same (found (rules ++ (r ∷ []))) (found rules) ms
    (every_map (λ (m : Mark). m.rules ≤ length rules) (λ (m : Mark). found (rules ++ (r ∷ [])) m ≡ found rules m)
    (λ m l. same_found (rules ++ (r ∷ [])) rules m (take-append-le m.rules rules (r ∷ []) l)) ms (up_to (length rules) ms h))

-- So does the front of the rules that an inner mark counts.
pub found_strike : (rules : List Rule) (n : ℕ) (ms : List Mark) → Nested n ms → map (found (take n rules)) ms ≡ map (found rules) ms
found_strike rules n ms h =
    map_same (found (take n rules)) (found rules) ms
    (every_map (λ (m : Mark). m.rules ≤ n) (λ (m : Mark). found (take n rules) m ≡ found rules m)
    (λ m l. same_found (take n rules) rules m (take-take m.rules n rules l)) ms (up_to n ms h))

-- The cores of the marks, innermost first, with one mark more.
pub saved_push : (f : Mark → Core) (ms : List Mark) (k : Mark) → reverse (map f (ms ++ (k ∷ []))) ≡ f k ∷ reverse (map f ms)
saved_push f ms k = ap reverse (map-append f ms (k ∷ [])) ∙ reverse-append (map f ms) (f k ∷ [])

-- Nested marks without the last are nested.
pub nested_pop : (n : ℕ) (all ms : List Mark) (r : Option Mark) → all ≡ ms ++ option_to_list r → Nested n all → Nested n ms
nested_pop n all ms (Some k) e h = nested_keep n ms k (subst (Nested n) e h)
nested_pop n all ms None e h = subst (Nested n) (e ∙ append-nil ms) h

-- The innermost mark has at most as many rules as the sheet.
pub last_up_to : (n : ℕ) (ms : List Mark) (k : Mark) → Nested n (ms ++ (k ∷ [])) → k.rules ≤ n
last_up_to n ms k h = (every_right (λ (m : Mark). m.rules ≤ n) ms (k ∷ []) (up_to n (ms ++ (k ∷ [])) h)).0

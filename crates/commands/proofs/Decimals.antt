-- The digits of a rest: one more, no more, and that they are exact.
use Rattle.std.proofs.Common.{◌≡◌, ℕ, zero, suc, ◌+◌, ◌-◌, ◌*◌, ◌/◌, ◌%◌, ◌^◌, ◌<◌, ◌≤◌, List, [], ◌∷◌, ◌++◌, length, sym, refl, ap, ◌∙◌, inl, inr, append_assoc, mul_assoc, mul_comm, add-mul, arith}
use native.Mathlib.Nat.{pow-succ'}
use Rattle.std.proofs.lemmas.Nat.{shl_whole}
use Rattle.std.proofs.lemmas.List.{append-nil}
use Rattle.std.proofs.lemmas.Bool.{cases_eq, eq-eqb, ne_eqb}
use Rattle.half.specs.Formats.{half, size}
use Rattle.commands.specs.Numbers.{spells}
use Rattle.commands.specs.declared.value.End.{End}
use Rattle.commands.specs.declared.print.Answer.{Answer}
use Rattle.commands.specs.declared.reply.Reply.{Reply}
use Rattle.commands.specs.Prints.{ExactAnswer}
use Rattle.commands.specs.Values.{ExactDigits, ExactEnd, digits_of, last_digit}

-- The size of a code with the exponent 0, and of any other.
pub size_low : (code : ℕ) → code / 1024 ≡ 0 → code % 1024 ≡ size half code
unfolding size
size_low code e = rw (eq-eqb (code / 1024) 0 e)

pub size_high : (code f : ℕ) → code ≤ 31743 → (code / 1024 ≡ 0 → ⊥) → f ≡ code % 1024
    → ((1024 + f) * 2 ^ (code / 1024 - 1)) % 2 ^ 64 ≡ size half code
unfolding size
size_high code f top some e =
    rw (shl_whole (1024 + f) 11 (code / 1024 - 1) 64 (omega arith) (omega arith), ne_eqb (code / 1024) 0 some, e)

-- Nothing is left.
pub digits_none : (k : ℕ) → digits_of k 0 ≡ []
unfolding digits_of
digits_none zero = refl
digits_none (suc k) = refl

-- One more digit.
digits_some : (k rest : ℕ) → (rest ≡ 0 → ⊥) → digits_of (suc k) rest ≡ (48 + rest * 10 / 16777216) ∷ digits_of k (rest * 10 % 16777216)
unfolding digits_of
digits_some k rest some = rw (ne_eqb rest 0 some)

pub digits_more : (bs all : List ℕ) (place left : ℕ) → place < 24 → (left ≡ 0 → ⊥)
    → bs ++ digits_of (24 - place) left ≡ all
    → (bs ++ ((48 + left * 10 / 16777216) ∷ [])) ++ digits_of (24 - (place + 1)) (left * 10 % 16777216) ≡ all
digits_more bs all place left h some inv =
    let step : 24 - place ≡ suc (24 - (place + 1)) = omega arith in
    rw append_assoc (rw (step, digits_some (24 - (place + 1)) left some) at inv)

-- No more digits, since nothing is left or since there were 24.
pub digits_end : (bs all : List ℕ) (k left : ℕ) → digits_of k left ≡ [] → bs ++ digits_of k left ≡ all → bs ≡ all
digits_end bs all k left none inv = sym (append-nil bs) ∙ rw none at inv

pub digits_spent : (place left : ℕ) → 24 ≤ place → digits_of (24 - place) left ≡ []
unfolding digits_of
digits_spent place left h = let e : 24 - place ≡ 0 = omega arith in rw e

-- k more digits come to an end: ten to the power of k times the rest is a whole number of ones.
record Ends (k rest : ℕ) : Type 0 where
  ones : ℕ
  even : rest * 10 ^ k ≡ ones * 16777216

-- 24 always do.
ends_all : (rest : ℕ) → Ends 24 rest
ends_all rest = record { ones = rest * 59604644775390625; even = omega arith }

-- One less after a digit.
ends_next : (k rest : ℕ) → Ends (suc k) rest → Ends k (rest * 10 % 16777216)
ends_next k rest h =
    let q : ℕ = rest * 10 / 16777216 in
    let r : ℕ = rest * 10 % 16777216 in
    let parts : rest * 10 ≡ q * 16777216 + r = omega arith in
    let whole : rest * 10 ^ suc k ≡ (rest * 10) * 10 ^ k = ap (λ (x : ℕ). rest * x) (pow-succ' 10 k) ∙ sym (mul_assoc rest 10 (10 ^ k)) in
    let split : (rest * 10) * 10 ^ k ≡ (q * 16777216) * 10 ^ k + r * 10 ^ k = ap (λ (x : ℕ). x * 10 ^ k) parts ∙ add-mul (q * 16777216) r (10 ^ k) in
    let turn : (q * 16777216) * 10 ^ k ≡ (q * 10 ^ k) * 16777216 = mul_assoc q 16777216 (10 ^ k) ∙ ap (λ (x : ℕ). q * x) (mul_comm 16777216 (10 ^ k)) ∙ sym (mul_assoc q (10 ^ k) 16777216) in
    record { ones = h.ones - q * 10 ^ k; even = omega (arith, h.even) }

-- What the digits spell, after those that spell n.
spelled_exactly : (k n rest : ℕ) → rest < 16777216 → Ends k rest
    → spells n (digits_of k rest) * 16777216 ≡ (n * 16777216 + rest) * 10 ^ length (digits_of k rest)
unfolding spells digits_of
spelled_exactly zero n rest small ends = omega (arith, ends.even)
spelled_exactly (suc k) n rest small ends =
    elim (cases_eq rest 0) [
      | inl none ↦ rw (ap (digits_of (suc k)) none ∙ digits_none (suc k)) (omega arith)
      | inr some ↦
          let q : ℕ = rest * 10 / 16777216 in
          let r : ℕ = rest * 10 % 16777216 in
          let ds : List ℕ = digits_of k r in
          let more = spelled_exactly k (n * 10 + (48 + q - 48)) r (omega arith) (ends_next k rest ends) in
          let tenfold : (n * 10 + (48 + q - 48)) * 16777216 + r ≡ (n * 16777216 + rest) * 10 = omega arith in
          rw (digits_some k rest some)
          (more ∙ ap (λ (x : ℕ). x * 10 ^ length ds) tenfold ∙ mul_assoc (n * 16777216 + rest) 10 (10 ^ length ds)
          ∙ ap (λ (x : ℕ). (n * 16777216 + rest) * x) (sym (pow-succ' 10 (length ds))))
    ]

-- The last digit is needed.
last_needed : (k d rest : ℕ) → rest < 16777216 → Ends k rest → (rest ≡ 0 → ⊥) → last_digit d (digits_of k rest) ≡ 48 → ⊥
unfolding digits_of
last_needed zero d rest small ends some e = some (omega (arith, ends.even))
last_needed (suc k) d rest small ends some e =
    let q : ℕ = rest * 10 / 16777216 in
    let r : ℕ = rest * 10 % 16777216 in
    let e' : last_digit (48 + q) (digits_of k r) ≡ 48 = rw (digits_some k rest some) at e in
    elim (cases_eq r 0) [
      | inl none ↦
          let last : 48 + q ≡ 48 = rw (ap (digits_of k) none ∙ digits_none k) at e' in
          some (omega arith)
      | inr more ↦ last_needed k (48 + q) r (omega arith) (ends_next k rest ends) more e'
    ]

-- The digits of a rest are exact, and none is needless.
pub exact_digits : (rest : ℕ) → rest < 16777216 → ExactDigits rest
exact_digits rest small =
    record {
      exactly = let e = spelled_exactly 24 0 rest small (ends_all rest) in e ∙ ap (λ (x : ℕ). x * 10 ^ length (digits_of 24 rest)) (omega arith);
      needed = λ e. elim (cases_eq rest 0) [
        | inl none ↦ let z : 49 ≡ 48 = rw (ap (digits_of 24) none ∙ digits_none 24) at e in omega arith
        | inr some ↦ last_needed 24 49 rest small (ends_all rest) some e
      ];
    }

-- So are those of every end.
pub exact_end : (end : End) → ExactEnd end
exact_end (End.Count n) = tt
exact_end (End.Half code) = exact_digits (size half code % 16777216) (omega arith)

-- So are the ends that an answer tells.
pub exact_answer : (answer : Answer) → ExactAnswer answer
exact_answer (Answer.Short (Reply.Value lo hi)) = (exact_end lo, exact_end hi)
exact_answer _ = tt

-- Texts added one after the other.
use Rattle.std.proofs.Common.{◌≡◌, ℕ, ◌+◌, ◌/◌, ◌^◌, ◌<◌, ◌≤◌, List, [], ◌++◌, length, take, drop, decimal, sym, refl, ap, ◌∙◌, arith}
use borrow.Rule.Slice.PartMut.{put_mid}
use Rattle.std.proofs.lemmas.List.{append_assoc, drop_at, drop-drop, length-append, length-take-le, take_all, take-append-drop, take_at}
use Rattle.std.proofs.lemmas.Slice.{put_mid-paste}
use Rattle.std.proofs.lemmas.Fmt.{decimal_step}
use Rattle.report.specs.Adding.{Adds}

-- The empty text adds nothing.
pub adds_none : (old : List ℕ) (at : ℕ) → at ≤ length old → Adds old at [] old at
adds_none old at fits = record { ends = omega arith; within = fits; size = refl; bytes = sym (take-append-drop at old) }

-- A text, and another after it: together they are the longer text.
pub adds_then : {old mid new t u : List ℕ} {at m e : ℕ} → Adds old at t mid m → Adds mid m u new e → Adds old at (t ++ u) new e
adds_then {old} {mid} {new} {t} {u} {at} {m} {e} first second =
    let front : length (take at old ++ t) ≡ m = length-append (take at old) t ∙ ap (λ (n : ℕ). n + length t) (length-take-le at old (omega (arith, first.ends, first.within))) ∙ sym first.ends in
    let whole : mid ≡ (take at old ++ t) ++ drop m old = first.bytes ∙ sym (append_assoc (take at old) t (drop m old)) in
    let before : take m mid ≡ take at old ++ t = ap (take m) whole ∙ take_at (take at old ++ t) (drop m old) m front in
    let behind : drop m mid ≡ drop m old = ap (drop m) whole ∙ drop_at (take at old ++ t) (drop m old) m front in
    let after : drop e mid ≡ drop e old =
    ap (λ (n : ℕ). drop n mid) second.ends ∙ sym (drop-drop (length u) m mid) ∙ ap (drop (length u)) behind ∙ drop-drop (length u) m old
    ∙ ap (λ (n : ℕ). drop n old) (sym second.ends) in
    record {
      ends = omega (arith, first.ends, second.ends, length-append t u);
      within = omega (arith, first.size, second.within);
      size = second.size ∙ first.size;
      bytes =
          second.bytes
          ∙ ap (λ (l : List ℕ). l ++ (u ++ drop e mid)) before
          ∙ ap (λ (l : List ℕ). (take at old ++ t) ++ (u ++ l)) after
          ∙ append_assoc (take at old) t (u ++ drop e old)
          ∙ ap (λ (l : List ℕ). take at old ++ l) (sym (append_assoc t u (drop e old)));
    }

-- A part of the memory, replaced by as many bytes.
pub adds_part :
    (old text part : List ℕ) (at k : ℕ) → part ≡ text → k ≡ length text → at + length text ≤ length old → length (put_mid at k old part) ≡ length old →
    Adds old at text (put_mid at k old part) (at + length text)
adds_part old text part at k same count fits size =
    record {
      ends = refl;
      within = fits;
      size = size;
      bytes =
          put_mid-paste at k old part text (length text) same (sym count) refl
          ∙ append_assoc (take at old) (take (length text) text) (drop (at + length text) old)
          ∙ ap (λ (l : List ℕ). take at old ++ (l ++ drop (at + length text) old)) (take_all (length text) text (omega arith));
    }

-- A number of two digits or more has a digit more than its tenth.
pub length_digits : (n : ℕ) → 10 ≤ n → n < 2 ^ 64 → length (decimal n) ≡ length (decimal (n / 10)) + 1
length_digits n ge fits = ap length (decimal_step n ge fits) ∙ length-append (decimal (n / 10)) _

-- A mode is told by its number, so the book of this number is the book of every mode that has it.
use Prim.Native.Nat.{◌≤◌}
use native.Mathlib.Omega.{arith}
use mathlib.Core.Path.{◌≡◌, refl, sym, subst, ◌∙◌}
use Rattle.half.specs.Roundings.{mode_number}
use Rattle.half.specs.declared.mode.Mode.{Mode}
use Rattle.half.specs.declared.mode.Mode.TheVariants.{TowardZero, Nearest, Up}
use Rattle.books.specs.HalfBooks.{half_meaning}
use Rattle.bench_export.specs.Told.{Told}
use Rattle.bench_export.proofs.narrow_half.Goals as goal

same_mode : (a b : Mode) → mode_number a ≡ mode_number b → a ≡ b
same_mode TowardZero TowardZero e = refl
same_mode TowardZero Nearest e = let w : ⊥ = omega arith in absurd w
same_mode TowardZero Up e = let w : ⊥ = omega arith in absurd w
same_mode Nearest TowardZero e = let w : ⊥ = omega arith in absurd w
same_mode Nearest Nearest e = refl
same_mode Nearest Up e = let w : ⊥ = omega arith in absurd w
same_mode Up TowardZero e = let w : ⊥ = omega arith in absurd w
same_mode Up Nearest e = let w : ⊥ = omega arith in absurd w
same_mode Up Up e = refl

mode_few : (a : Mode) → mode_number a ≤ 2
mode_few TowardZero = omega arith
mode_few Nearest = omega arith
mode_few Up = omega arith

pub returns-in-Ok : goal.returns-in-Ok
returns-in-Ok c = record {
  told = λ (m : Mode) e. subst (λ (x : Mode). Told (half_meaning x) c.args.kind c.args.ends.now c.narrow_ends.new.ends c.narrow_ends.result)
      (same_mode c.in-Ok.book.mode m (c.in-Ok.ensures ∙ sym e)) c.narrow_ends.ensures;
  none = λ over. let few = mode_few c.in-Ok.book.mode in let is = c.in-Ok.ensures in let w : ⊥ = omega (arith, few, is, over) in absurd w;
}

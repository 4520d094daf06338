use Rattle.std.proofs.Common.{ℕ, ◌+◌, ◌-◌, ◌*◌, ◌/◌, List, [], ◌∷◌, ◌++◌, subst, refl, ap, ◌∙◌, arith, rules}
use Rattle.std.specs.Fmt.{HasWritten}
use Rattle.std.specs.Char.{encode_utf8}
use Rattle.std.proofs.lemmas.Str.{encode_ascii}
use Rattle.std.proofs.lemmas.Grind.{put_two}
use Rattle.commands.specs.Values.{digits_of}
use Rattle.commands.proofs.Decimals.{digits_end, digits_more, digits_none, digits_spent}
use Rattle.commands.proofs.value.DigitsDisplay.fmt.Goals as goal

pub loop-place-preserved : goal.loop-place-preserved
loop-place-preserved g c = record {
  below = omega arith;
  written = λ p.
      let inv = c.loop-place.invariant.written p in
      let digit : ℕ = c.loop-place.left * 10 / 16777216 in
      let here : HasWritten g.W.Write.write_str_gives c.loop-place.f ((48 + digit) ∷ []) c.write_char.new.self =
      subst (λ (l : List ℕ). HasWritten g.W.Write.write_str_gives c.loop-place.f l c.write_char.new.self) (ap encode_utf8 c.from.ensures ∙ encode_ascii (48 + digit) (omega arith)) (search rules) in (
        inv.0 ++ ((48 + digit) ∷ []),
        put_two _ _ _ _ _ _ _ inv.1 here refl,
        digits_more _ _ c.loop-place.place c.loop-place.left (omega arith) (λ z. omega arith) inv.2,
      );
}

pub returns-after-loop-place-clause-writes : goal.returns-after-loop-place-clause-writes
returns-after-loop-place-clause-writes g c =
    λ p ok. let inv = c.loop-place.invariant.written p in
    subst (λ (l : List ℕ). HasWritten g.W.Write.write_str_gives c.args.f.now l c.loop-place.f)
    (digits_end _ _ _ _ (digits_spent c.loop-place.place c.loop-place.left (omega arith)) inv.2) inv.1

pub returns-then-left-eq0-clause-writes : goal.returns-then-left-eq0-clause-writes
returns-then-left-eq0-clause-writes g c =
    λ p ok. let inv = c.loop-place.invariant.written p in
    subst (λ (l : List ℕ). HasWritten g.W.Write.write_str_gives c.args.f.now l c.loop-place.f)
    (digits_end _ _ _ _ (ap (digits_of (24 - c.loop-place.place)) c.if-left-eq0.true ∙ digits_none (24 - c.loop-place.place)) inv.2) inv.1

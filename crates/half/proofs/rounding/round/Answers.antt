-- The digits kept and their shift are the code's, and the mode's limit cuts it.
use Rattle.std.proofs.Common.{◌≡◌, ℕ, ◌+◌, ◌-◌, ◌*◌, ◌/◌, ◌%◌, ◌^◌, ◌<◌, ◌≤◌, min, sym, ap, ◌∙◌, arith, rules}
use Rattle.half.specs.Formats.{half}
use Rattle.half.specs.Steps.{chosen, limit}
use Rattle.half.specs.declared.mode.Mode.{Mode}
use Rattle.half.specs.declared.mode.Mode.TheVariants.{TowardZero, Nearest, Up}
use Rattle.half.proofs.Placed.{Placing, placing, chosen_low}
use Rattle.half.proofs.rounding.round.Goals as goal

-- Eleven zeros below the digits fit in 64 bits.
wide : (digits : ℕ) → digits < 2 ^ 41 → digits * 2048 % 2 ^ 64 ≡ digits * 2048
wide digits h = omega arith

-- No mode answers more than top + 1.
limit_low : (m : Mode) → limit half m ≤ 31744
limit_low TowardZero = omega arith
limit_low Nearest = omega arith
limit_low Up = omega arith

-- The digits kept, after rounding, are at most 2048.
kept_most : (m : Mode) (digits shift place r : ℕ) → Placing digits shift place → digits < 2 ^ 41 →
    r ≡ chosen m (digits * 2048 % 2 ^ 64 / 2 ^ place) (digits * 2048 % 2 ^ 64 % 2 ^ place) (2 ^ place) → r ≤ 2048
kept_most m digits shift place r at small is = rw (is, wide digits small) (chosen_low m _ _ _ at.kept)

pub kept-significand-requires : goal.kept-significand-requires
kept-significand-requires c =
    let at = placing c.args.exact _ _ c.bit_length.ensures c.last_place-place.ensures in
    (at.some, (at.low, omega arith))

pub overflow_cast-significand : goal.overflow_cast-significand
overflow_cast-significand c =
    let at = placing c.args.exact _ _ c.bit_length.ensures c.last_place-place.ensures in
    let most = kept_most _ _ _ _ _ at c.args.exact.small c.kept-significand.ensures in
    search rules

pub put_together-requires : goal.put_together-requires
put_together-requires c =
    let at = placing c.args.exact _ _ c.bit_length.ensures c.last_place-place.ensures in
    (omega arith, kept_most _ _ _ _ _ at c.args.exact.small c.kept-significand.ensures)

pub returns : goal.returns
returns c =
    let at = placing c.args.exact _ _ c.bit_length.ensures c.last_place-place.ensures in
    let place = c.last_place-place.result in
    let whole = wide c.args.exact.digits c.args.exact.small in
    let kept = c.kept-significand.ensures ∙ ap (λ x. chosen c.args.mode (x / 2 ^ place) (x % 2 ^ place) (2 ^ place)) whole in
    let joined = c.put_together.ensures ∙ ap (λ x. 1024 * (place + c.args.exact.shift - 35) + x) kept in
    record {
      code = λ e is. c.cut.ensures ∙ ap (λ x. min x (limit half c.args.mode)) joined ∙ sym (at.code c.args.mode e is);
      bounded = omega (arith, c.cut.ensures, limit_low c.args.mode);
    }

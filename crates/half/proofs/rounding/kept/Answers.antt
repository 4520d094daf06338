-- The nudge carries into the digits kept exactly where the mode goes up.
use Rattle.std.proofs.Common.{◌≡◌, ℕ, ◌+◌, ◌-◌, ◌*◌, ◌/◌, ◌%◌, ◌^◌, ◌<◌, ◌≤◌, arith, pow_pos, pow_mono}
use lib.Bits.{bit_and}
use Rattle.std.proofs.lemmas.Nat.{one_shl, and_mask}
use Rattle.half.specs.Steps.{chosen, nudge}
use Rattle.half.specs.declared.mode.Mode.{Mode}
use Rattle.half.specs.declared.mode.Mode.TheVariants.{TowardZero, Nearest, Up}
use Rattle.half.proofs.Cells.{nudged}
use Rattle.half.proofs.Placed.{pow_double}
use Rattle.half.proofs.rounding.kept.Goals as goal

-- Half a step, as it is shifted into place.
half_is : (place : ℕ) → place ≤ 41 → (1 * 2 ^ (place - 1)) % 2 ^ 64 ≡ 2 ^ (place - 1)
half_is place low = one_shl (place - 1) 64 (omega arith)

-- The lowest digit kept, as it is masked.
odd_is : (n : ℕ) → bit_and n 1 ≡ n % 2
odd_is n = and_mask n 1

-- Half a step has 41 bits at most.
half_low : (place : ℕ) → place ≤ 41 → 2 ^ (place - 1) ≤ 2 ^ 40
half_low place low = pow_mono {j = 40} (omega arith)

-- A nudge is at most a step.
nudge_low : (m : Mode) (half odd : ℕ) → half ≤ 2 ^ 40 → odd < 2 → nudge m half odd ≤ 2 ^ 41
nudge_low TowardZero half odd h o = omega arith
nudge_low Nearest half odd h o = omega arith
nudge_low Up half odd h o = omega arith

pub nudge-requires : goal.nudge-requires
nudge-requires c =
    let h = half_is c.args.place (omega arith) in
    let low = half_low c.args.place (omega arith) in
    let o = odd_is (c.args.digits / 2 ^ c.args.place) in
    (omega (arith, pow_pos (c.args.place - 1)), (omega arith, omega arith))

pub overflow_add-result : goal.overflow_add-result
overflow_add-result c =
    let h = half_is c.args.place (omega arith) in
    let low = half_low c.args.place (omega arith) in
    let o = odd_is (c.args.digits / 2 ^ c.args.place) in
    let most = nudge_low c.args.mode ((1 * 2 ^ (c.args.place - 1)) % 2 ^ 64) (bit_and (c.args.digits / 2 ^ c.args.place) 1) (omega arith) (omega arith) in
    omega (arith, c.nudge.ensures)

-- The nudge of half a step as it is shifted, and of the lowest digit as it is masked, makes the mode's choice.
carried : (m : Mode) (digits place h o n : ℕ) → 1 ≤ place → h ≡ 2 ^ (place - 1) → o ≡ digits / 2 ^ place % 2 → n ≡ nudge m h o → (digits + n) / 2 ^ place ≡ chosen m (digits / 2 ^ place) (digits % 2 ^ place) (2 ^ place)
carried m digits place h o n some eh eo en =
    let step : 2 ^ place ≡ 2 * 2 ^ (place - 1) = pow_double place some in
    let choice = nudged m digits (2 ^ (place - 1)) (pow_pos (place - 1)) in
    rw (en, eh, eo, step) choice

pub returns : goal.returns
returns c =
    carried c.args.mode c.args.digits c.args.place _ _ c.nudge.result (omega arith)
    (half_is c.args.place (omega arith)) (odd_is (c.args.digits / 2 ^ c.args.place)) c.nudge.ensures

-- What the digits so far spell, and those that are left, is what all spell; and those that are left are digits.
use Rattle.std.proofs.Common.{◌≡◌, ◌≤◌, true, drop}
use Rattle.commands.specs.Numbers.{is_decimal, spells}
use Rattle.commands.proofs.number.spelled_value.Given as goal

abbrev pub invariant-loop-digit : goal.invariant-loop-digit
invariant-loop-digit l = record {
  all : spells l.value (drop l.digit-index l.digits) ≡ spells 0 l.digits;
  digits : is_decimal (drop l.digit-index l.digits) ≡ true;
  fits : l.value ≤ 4294967295;
}

-- The digits so far are written; they, and those of what is left, are all.
use Rattle.std.proofs.Common.{◌≡◌, ◌-◌, ◌<◌, List, ◌++◌, ℕ}
use Rattle.std.specs.Fmt.{HasWritten, IsPlainFormatter}
use Rattle.commands.specs.Values.{digits_of}
use Rattle.commands.proofs.value.DigitsDisplay.fmt.Given as goal

abbrev pub invariant-loop-place : goal.invariant-loop-place
invariant-loop-place g l = record {
  below : l.left < 16777216;
  written : IsPlainFormatter l.initial.f
      → (bs : List ℕ) × HasWritten g.W.Write.write_str_gives l.initial.f bs l.f × (bs ++ digits_of (24 - l.place) l.left ≡ digits_of 24 l.self.rest);
}

-- The numbers so far, and those that are to be read of the words that are left, are all.
use Rattle.std.proofs.Common.{◌≡◌, ◌-◌, length, take}
use Rattle.commands.specs.Meaning.{numbers}
use Rattle.commands.proofs.Many.{after}
use Rattle.commands.proofs.words.Words.numbers.Given as goal

abbrev pub invariant-loop-number : goal.invariant-loop-number
invariant-loop-number g l = record {
  all : numbers g.row.N l.initial.self ≡ after (take l.number-index l.number-items) (numbers (g.row.N - l.number-index) l.self);
  places : length l.number-items ≡ g.row.N;
}

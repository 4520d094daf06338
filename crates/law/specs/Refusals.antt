-- The refusals by their numbers.
-- Assumes nothing.
use Rattle.std.specs.Prelude.{ℕ}
use Rattle.law.specs.declared.calls.Refusal.{Refusal}
use Rattle.law.specs.declared.calls.Refusal.TheVariants.{Ends, NoLine, Twice, NoKind, Full, Empties, IsBarren, TooManyTries, WrongTicket}

-- The number that each refusal goes by.
abbrev pub numbered : Refusal → ℕ
numbered Ends = 1
numbered NoLine = 2
numbered Twice = 3
numbered NoKind = 4
numbered Full = 5
numbered Empties = 6
numbered IsBarren = 7
numbered TooManyTries = 8
numbered WrongTicket = 9

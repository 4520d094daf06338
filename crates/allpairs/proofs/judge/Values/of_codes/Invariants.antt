-- One value stands in the table for each code so far.
use Rattle.std.proofs.Common.{◌≡◌, vec_len}
use Rattle.allpairs.proofs.judge.Values.of_codes.Given as goal

abbrev pub invariant-loop-code : goal.invariant-loop-code
invariant-loop-code l = vec_len l.values ≡ l.code

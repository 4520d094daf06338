-- There is one less each time.
use Rattle.std.proofs.Common.{vec_len}
use Rattle.desk.proofs.desk.sheets.put_away.Given as goal

abbrev pub decreases-loop-tended : goal.decreases-loop-tended
decreases-loop-tended l = vec_len l.folders

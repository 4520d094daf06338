use Rattle.std.proofs.Common.{◌-◌, ◌≤◌, map, length, min, vec_items}
use Rattle.windows.specs.Windows.{span}
use Rattle.runs.specs.Wakes.{Calm}
use Rattle.runs.proofs.Turns.{At}
use Rattle.runs.proofs.run.play_round.Given as goal

abbrev pub invariant-loop-rule : goal.invariant-loop-rule
invariant-loop-rule g l =
    let m = g.B.Book.meaning l.book in
    record {
      upper : l.count ≤ l.n;
      lower : l.start ≤ l.count;
      at : Calm m (vec_items l.rules.items) l.initial.agenda (map span (vec_items l.initial.lines.windows)) →
          At m (vec_items l.rules.items) l.n l.start (map span (vec_items l.initial.lines.windows)) (min l.next (length (vec_items l.rules.items))) l.count
          (map span (vec_items l.lines.windows)) l.agenda;
    }

abbrev pub decreases-loop-rule : goal.decreases-loop-rule
decreases-loop-rule g l = length (vec_items l.rules.items) - l.next

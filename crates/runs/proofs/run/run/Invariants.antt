use Rattle.std.proofs.Common.{◌-◌, ◌≤◌, false, map, vec_items}
use Rattle.windows.specs.Windows.{span}
use Rattle.law.specs.Runs.{Ending, Run}
use Rattle.runs.specs.Rounds.{Ready}
use Rattle.runs.specs.Wakes.{Calm}
use Rattle.runs.proofs.run.run.Given as goal

abbrev pub invariant-rounds : goal.invariant-rounds
invariant-rounds g l =
    let m = g.B.Book.meaning l.book in
    let rules = vec_items l.rules.items in
    let first = map span (vec_items l.initial.lines.windows) in
    let now = map span (vec_items l.lines.windows) in
    (l.count ≤ l.n)
    × (Ready m rules first → Calm m rules l.agenda now)
    × (Ready m rules first → (e : Ending) → Run m rules l.n rules 1 false l.count now e → Run m rules l.n rules 1 false 0 first e)

abbrev pub decreases-rounds : goal.decreases-rounds
decreases-rounds g l = l.n - l.count

use Rattle.std.proofs.Common.{◌≡◌, take, vec_items}
use Rattle.law.specs.Law.{Played}
use Rattle.tables.specs.Views.{model}
use Rattle.sheet.proofs.sheet.replay.Replay.of.Given as goal

-- the calls so far have been played
abbrev pub invariant-loop-call : goal.invariant-loop-call
invariant-loop-call g l =
    let m = g.B.Book.meaning l.initial.sheet.book in
    (l.sheet.number ≡ l.number) × (l.sheet.book ≡ l.initial.sheet.book) × Played m l.number (take l.call-index l.calls) (vec_items l.answers) (model l.sheet.tables)

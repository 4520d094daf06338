use Rattle.std.proofs.Common.{◌≡◌, ℕ}
use Rattle.law.specs.Histories.{History}
use Rattle.law.specs.Steps.{Reached}
use Rattle.windows.specs.Meanings.{Meaning}
use Rattle.tables.specs.Views.{model}
use Rattle.stored.specs.Loads.{chain, progress, step, walk}
use Rattle.stored.proofs.load.take_chain.Given as goal

-- some history led to the sheet as it is, and what is left of the walk from here on is the walk
abbrev pub invariant-loop-at : goal.invariant-loop-at
invariant-loop-at g l =
    let m : Meaning = g.B.Book.meaning l.initial.sheet.book in
    let id : ℕ = l.initial.sheet.number in
    (h : History)
    × Reached m id h (model l.sheet.tables)
    × (walk (step m id) l.bytes l.left l.at (progress h (model l.sheet.tables)) ≡ chain m id l.bytes)
    × (l.sheet.number ≡ l.initial.sheet.number)
    × (l.sheet.book ≡ l.initial.sheet.book)

abbrev pub decreases-loop-at : goal.decreases-loop-at
decreases-loop-at g l = l.left

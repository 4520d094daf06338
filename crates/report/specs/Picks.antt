-- The book that a head names, by its drive and mode.
-- Assumes nothing.
use Rattle.std.specs.Prelude.{◌≡◌, ℕ, ◌<◌, cond, List, length, Ok, Err, Result}
use Rattle.half.specs.Roundings.{mode_number}
use Rattle.stored.specs.declared.fault.LoadFault.{LoadFault}
use Rattle.stored.specs.declared.fault.LoadFault.TheVariants.{Length, Head}
use Rattle.stored.specs.Loads.{bad_length}
use Rattle.stored.specs.Records.{byte}
use Rattle.books.specs.declared.any_book.AnyBook.{AnyBook}
use Rattle.books.specs.declared.any_book.AnyBook.TheVariants.{Half, Counter}

-- Drive 0 with mode 0, 1 or 2 is the half book of the mode, drive 1 with mode 0 the counter book. No book fits any other: the
-- length is at fault where no stored sheet has it, else the head.
abbrev pub Picks : List ℕ → Result AnyBook LoadFault → Type 0
Picks input (Ok (Half book)) = (byte input 2 ≡ 0) × (byte input 3 ≡ mode_number book.mode)
Picks input (Ok Counter) = (byte input 2 ≡ 1) × (byte input 3 ≡ 0)
Picks input (Err fault) =
    (byte input 2 ≡ 0 → 2 < byte input 3) × (byte input 2 ≡ 1 → 0 < byte input 3) × (fault ≡ cond (bad_length (length input)) Length Head)

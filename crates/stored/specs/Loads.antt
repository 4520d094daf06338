-- What a load makes of a file.
--   progress   the sheet reached so far, with the history that led to it: one accepted call for each record taken
--   step       what taking an item makes of a progress, or why it is turned away
--   walk       the chain followed from an index on, where so many records may still be taken
--   loads      the whole file: its length, its head, then the walk
-- m is the meaning of the book, id the sheet's number. Assumes nothing.
use Rattle.std.specs.Prelude.{◌≡◌, ℕ, zero, suc, ◌+◌, ◌-◌, ◌%◌, Bool, cond, not, ◌||◌, List, [], ◌∷◌, length, Some, None, Ok, Err, Option, Result, ◌==◌, nat_le, nat_lt}
use Rattle.windows.specs.Meanings.{Meaning}
use Rattle.law.specs.declared.calls.Answer.{Answer}
use Rattle.law.specs.declared.calls.Refusal.{Refusal}
use Rattle.law.specs.Sheets.{Model, empty}
use Rattle.law.specs.Steps.{Reached, lined, ruled, with_core}
use Rattle.law.specs.Histories.{History, entry}
use Rattle.law.specs.Law.{Law}
use Rattle.law.specs.Table.{verdict}
use Rattle.stored.specs.declared.fault.LoadFault.{LoadFault}
use Rattle.stored.specs.declared.fault.LoadFault.TheVariants.{Length, Head, Chain, Record, Call}
use Rattle.stored.specs.declared.fault.Placed.{Placed}
use Rattle.stored.specs.declared.item.Item.{Item}
use Rattle.stored.specs.Records.{records, record_at, byte, is_head, read, call_of}

-- The sheet reached, and its history.
pub record Progress : Type 0 where
  pub history : History
  pub sheet : Model

-- The progress of this history and sheet.
abbrev pub progress : History → Model → Progress
progress h s = record { history = h; sheet = s }

-- Before the first record.
abbrev pub start : Progress
start = progress [] empty

-- The sheet with one more item, and the number that the item gets.
abbrev pub with_item : Model → Item → Model
with_item s (Item.Line lo hi) = with_core s (lined s.core lo hi)
with_item s (Item.Rule r) = with_core s (ruled s.core r)

abbrev pub item_number : Model → Item → ℕ
item_number s (Item.Line lo hi) = length s.core.windows + 1
item_number s (Item.Rule r) = length s.core.rules + 1

-- The item taken, where the table of refusals gave this verdict.
abbrev pub judged : Progress → Item → Option Refusal → Result Progress Refusal
judged p i None = Ok (progress (entry (call_of i) (Answer.Numbered (item_number p.sheet i)) ∷ p.history) (with_item p.sheet i))
judged p i (Some why) = Err why

-- The item taken, as its call is.
abbrev pub step : Meaning → ℕ → Progress → Item → Result Progress Refusal
step m id p i = judged p i (verdict m id p.sheet (call_of i))

-- On from the record at this index, once its call was made: a refusal is carried whole, with the index.
abbrev pub on : {S : Type 0} → ℕ → (S → Result S LoadFault) → Result S Refusal → Result S LoadFault
on at go (Ok s) = go s
on at go (Err why) = Err (Call why at)

-- On from the record at this index, once it was read.
abbrev pub on_read : {S : Type 0} → ℕ → (Item → Result S Refusal) → (S → Result S LoadFault) → Option Item → Result S LoadFault
on_read at take go None = Err (Record at)
on_read at take go (Some i) = on at go (take i)

-- The chain from the index at on, where left more records may be taken. Index 0 ends it; it may not leave the file.
unfoldable pub walk : {S : Type 0} → (S → Item → Result S Refusal) → List ℕ → (left at : ℕ) → S → Result S LoadFault
walk take bytes zero at s = cond (at == 0) (Ok s) (Err (Chain at))
walk take bytes (suc left) at s =
    cond (at == 0) (Ok s) (cond (nat_le (records bytes) at) (Err (Chain at))
    (on_read at (take s) (λ t. walk take bytes left (byte (record_at bytes at) 1) t) (read (record_at bytes at))))

-- The length is 0, over 2048 or no multiple of 8.
abbrev pub bad_length : ℕ → Bool
bad_length n = n == 0 || (nat_lt 2048 n || not (n % 8 == 0))

-- The chain of the file: at most as many records as follow the head.
abbrev pub chain : Meaning → ℕ → List ℕ → Result Progress LoadFault
chain m id bytes = walk (step m id) bytes (records bytes - 1) (byte (record_at bytes 0) 1) start

-- A load of the bytes, for a book of this drive and mode: the fault, or what was reached.
unfoldable pub loads : Meaning → (id drive mode : ℕ) → List ℕ → Result Progress LoadFault
loads m id drive mode bytes =
    cond (bad_length (length bytes)) (Err Length) (cond (is_head drive mode (record_at bytes 0)) (chain m id bytes) (Err Head))

-- The sheet s and the fault are those of a load with this outcome: a fault with a fresh sheet, or none, with the sheet that
-- the calls taken led to, all of them accepted.
abbrev pub Outcome : Meaning → ℕ → Model → Option LoadFault → Result Progress LoadFault → Type 0
Outcome m id s fault (Ok p) = (fault ≡ None) × (s ≡ p.sheet) × Reached m id p.history s
Outcome m id s fault (Err f) = (fault ≡ Some f) × (s ≡ empty)

-- The law holds of the sheet s that a load with this outcome leaves, with the calls taken as its history.
abbrev pub UnderLaw : Meaning → ℕ → Model → Result Progress LoadFault → Type 0
UnderLaw m id s (Ok p) = Law m id p.history s
UnderLaw m id s (Err f) = Unit {0}

-- Some history leads to the sheet s, and the law holds of both.
pub record LedTo (m : Meaning) (id : ℕ) (s : Model) : Type 0 where
  pub history : History
  pub reached : Reached m id history s
  pub law : Law m id history s

-- The parts of a load, as the code takes them.
-- The record at this index opened: first whether the chain may come here, then whether the record can be read.
abbrev pub found : ℕ → Option Item → Result Item LoadFault
found at (Some i) = Ok i
found at None = Err (Record at)

abbrev pub opened : List ℕ → (left at : ℕ) → Result Item LoadFault
opened bytes left at = cond (left == 0 || nat_le (records bytes) at) (Err (Chain at)) (found at (read (record_at bytes at)))

-- The answer of a line or rule, where a refusal goes with the index of its record.
abbrev pub told : Result ℕ Placed → Answer
told (Ok k) = Answer.Numbered k
told (Err p) = Answer.Refused p.why

-- The sheet s is what a filling with this outcome leads to.
abbrev pub Filled : Meaning → ℕ → Model → Result (Unit {0}) LoadFault → Result Progress LoadFault → Type 0
Filled m id s (Ok u) (Ok p) = (s ≡ p.sheet) × Reached m id p.history s
Filled m id s (Ok u) (Err f) = ⊥
Filled m id s (Err e) (Ok p) = ⊥
Filled m id s (Err e) (Err f) = e ≡ f

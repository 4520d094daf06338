-- What a store writes.
--   items     the lines of a sheet with their present windows, then its rules
--   chained   their records, from an index on, each with the next index; the last has 0
--   file      the head and these records
--   over      a text written over the beginning of a buffer
-- Assumes nothing.
use Rattle.std.specs.Prelude.{◌≡◌, ℕ, ◌+◌, ◌*◌, cond, List, [], ◌∷◌, ◌++◌, map, length, take, drop, Some, None, Ok, Err, Option, Result, ◌==◌, nat_lt}
use Rattle.windows.specs.Spans.{Span}
use Rattle.windows.specs.Meanings.{Meaning}
use Rattle.law.specs.declared.calls.Rule.{Rule}
use Rattle.law.specs.declared.calls.State.{State}
use Rattle.law.specs.Histories.{History}
use Rattle.law.specs.Sheets.{Core, Model}
use Rattle.law.specs.Steps.{Reached}
use Rattle.law.specs.Table.{is_barren}
use Rattle.stored.specs.declared.fault.LoadFault.{LoadFault}
use Rattle.stored.specs.declared.fault.ReloadFault.{ReloadFault}
use Rattle.stored.specs.declared.fault.ReloadFault.TheVariants.{OutOfMemory, Store}
use Rattle.stored.specs.declared.fault.StoreFault.{StoreFault}
use Rattle.stored.specs.declared.fault.StoreFault.TheVariants.{TryOpen, IsBarren, Short}
use Rattle.stored.specs.declared.item.Item.{Item}
use Rattle.stored.specs.Records.{head, write}
use Rattle.stored.specs.Loads.{Progress, loads}

-- The item of a line's window.
abbrev pub line_item : Span → Item
line_item w = Item.Line w.lo w.hi

-- The items of these windows and rules, in the order in which they are stored.
abbrev pub items_of : List Span → List Rule → List Item
items_of ws rs = map line_item ws ++ map Item.Rule rs

-- What a sheet holds.
abbrev pub items : Core → List Item
items c = items_of c.windows c.rules

-- The index i where n items are still to come, else 0.
abbrev pub next_index : (i n : ℕ) → ℕ
next_index i n = cond (n == 0) 0 i

-- The records of the items, the first of which has the index i.
unfoldable pub chained : ℕ → List Item → List ℕ
chained i [] = []
chained i (x ∷ xs) = write x (next_index (i + 1) (length xs)) ++ chained (i + 1) xs

-- The whole file.
unfoldable pub file : (drive mode : ℕ) → List Item → List ℕ
file drive mode xs = head drive mode (next_index 1 (length xs)) ++ chained 1 xs

-- The length of the file.
abbrev pub size : Core → ℕ
size c = 8 * (1 + (length c.windows + length c.rules))

-- The text, and what the buffer held after it.
abbrev pub over : List ℕ → List ℕ → List ℕ
over text out = text ++ drop (length text) out

-- What a store answers, with a buffer of this length: a try open, then barren, then a short buffer turn it away.
abbrev pub stores : Model → ℕ → Result ℕ StoreFault
stores s room =
    cond (nat_lt 0 (length s.saved)) (Err TryOpen) (cond (is_barren s.core.state) (Err IsBarren) (cond (nat_lt room (size s.core)) (Err Short) (Ok (size s.core))))

-- What the buffer holds after it.
abbrev pub buffer : (drive mode : ℕ) → Model → List ℕ → Result ℕ StoreFault → List ℕ
buffer drive mode s out (Ok n) = over (file drive mode (items s.core)) out
buffer drive mode s out (Err why) = out

-- The core as it is after a load of what was stored: the same windows and rules, unsettled.
abbrev pub unsettled : Core → Core
unsettled c = record { state = State.Unsettled; windows = c.windows; rules = c.rules }

-- A load of the first n bytes of the buffer, with the same number and book, has no fault and gives the same windows and rules.
pub record ComesBack (m : Meaning) (id drive mode : ℕ) (c : Core) (bytes : List ℕ) : Type 0 where
  pub reached : Progress
  pub loaded : loads m id drive mode bytes ≡ Ok reached
  pub same : reached.sheet ≡ record { core = unsettled c; saved = [] }

-- What was stored comes back, for every sheet that a history leads to.
abbrev pub Back : Meaning → (id drive mode : ℕ) → Model → List ℕ → ℕ → Type 0
Back m id drive mode s out n = (h : History) → Reached m id h s → ComesBack m id drive mode s.core (take n out)

abbrev pub RoundTrip : Meaning → (id drive mode : ℕ) → Model → List ℕ → Result ℕ StoreFault → Type 0
RoundTrip m id drive mode s out (Ok n) = Back m id drive mode s out n
RoundTrip m id drive mode s out (Err why) = Unit {0}

-- The same under any number.
abbrev pub BackUnderAny : Meaning → (id drive mode : ℕ) → Model → List ℕ → ℕ → Type 0
BackUnderAny m id drive mode s out n = (h : History) → Reached m id h s → (number : ℕ) → ComesBack m number drive mode s.core (take n out)

abbrev pub RoundTripUnderAny : Meaning → (id drive mode : ℕ) → Model → List ℕ → Result ℕ StoreFault → Type 0
RoundTripUnderAny m id drive mode s out (Ok n) = BackUnderAny m id drive mode s out n
RoundTripUnderAny m id drive mode s out (Err why) = Unit {0}

-- A record written at a place of the buffer.
abbrev pub put_at : ℕ → List ℕ → List ℕ → List ℕ
put_at at r out = take at out ++ (r ++ drop (at + 8) out)

-- No item.
abbrev pub nothing : Item
nothing = Item.Line 0 0

-- The sheet t and the fault are what s comes back as, whatever history led to s: no fault, the same windows and rules, unsettled.
abbrev pub SameAgain : Meaning → ℕ → Model → Model → Option LoadFault → Type 0
SameAgain m id s t fault = (h : History) → Reached m id h s → (fault ≡ None) × (t ≡ record { core = unsettled s.core; saved = [] })

-- Why the store of a reload was refused, if it was: want of memory comes only where it was not.
abbrev pub store_fault_of : {X : Type 0} → Result X ReloadFault → Option StoreFault
store_fault_of (Ok x) = None
store_fault_of (Err (Store why)) = Some why
store_fault_of (Err OutOfMemory) = None

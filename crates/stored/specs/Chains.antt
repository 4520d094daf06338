-- What a load comes to, in the words of the format: how far the chain of the file leads, and why the load ends there.
--   leads   from one index to another along the chain: each index on the way is that of a record of the file, and not 0; the
--           record tells an item and names the next index
--   takes   the calls of items, made one after the other, each accepted
--   story   the items that were taken, the index that was reached, and why the load ends there
-- As many records may be taken as follow the head. Assumes nothing.
use Rattle.std.specs.Prelude.{◌≡◌, ℕ, ◌+◌, ◌-◌, ◌<◌, ◌≤◌, true, false, ◌⊎◌, List, [], ◌∷◌, length, Some, None, Ok, Err, Result}
use Rattle.windows.specs.Meanings.{Meaning}
use Rattle.law.specs.declared.calls.Refusal.{Refusal}
use Rattle.stored.specs.declared.fault.LoadFault.{LoadFault}
use Rattle.stored.specs.declared.fault.LoadFault.TheVariants.{Length, Head, Chain, Record, Call}
use Rattle.stored.specs.declared.item.Item.{Item}
use Rattle.stored.specs.Records.{records, record_at, byte, is_head, read}
use Rattle.stored.specs.Loads.{Progress, bad_length, loads, start, step}

-- The chain leads from one index to another, by these items.
pub data Leads (bytes : List ℕ) : ℕ → List Item → ℕ → Type 0 where
  here : {at : ℕ} → Leads bytes at [] at
  on_to : {at to : ℕ} {i : Item} {items : List Item} → 0 < at → at < records bytes → read (record_at bytes at) ≡ Some i
      → Leads bytes (byte (record_at bytes at) 1) items to → Leads bytes at (i ∷ items) to

-- The items are taken one after the other, from s to t.
abbrev pub Takes : {S : Type 0} → (S → Item → Result S Refusal) → List Item → S → S → Type 0
Takes take [] s t = s ≡ t
Takes {S} take (x ∷ xs) s t = (u : S) × (take s x ≡ Ok u) × Takes take xs u t

-- Why a load ends at this index, where left more records may be taken: the chain ends; it leaves the file, or no record may be
-- taken any more; the record cannot be read; its call is turned away.
abbrev pub EndsAt : {S : Type 0} → (S → Item → Result S Refusal) → List ℕ → (left to : ℕ) → S → Result S LoadFault → Type 0
EndsAt take bytes left to s (Ok t) = (to ≡ 0) × (t ≡ s)
EndsAt take bytes left to s (Err Length) = ⊥
EndsAt take bytes left to s (Err Head) = ⊥
EndsAt take bytes left to s (Err (Chain at)) = (at ≡ to) × (0 < to) × ((records bytes ≤ to) ⊎ (left ≡ 0))
EndsAt take bytes left to s (Err (Record at)) = (at ≡ to) × (0 < to) × (to < records bytes) × (0 < left) × (read (record_at bytes to) ≡ None)
EndsAt take bytes left to s (Err (Call why at)) =
    (at ≡ to) × (0 < to) × (to < records bytes) × (0 < left) × ((i : Item) × (read (record_at bytes to) ≡ Some i) × (take s i ≡ Err why))

-- What came before the end of a load, from the index at on, with this outcome.
pub record Story {S : Type 0} (take : S → Item → Result S Refusal) (bytes : List ℕ) (left at : ℕ) (s : S) (o : Result S LoadFault) : Type 0 where
  pub items : List Item
  pub to : ℕ
  pub spare : ℕ
  pub after : S
  pub leads : Leads bytes at items to
  pub counted : length items + spare ≡ left
  pub takes : Takes take items s after
  pub ends : EndsAt take bytes spare to after o

-- A file that is loaded whole: its length and its head are right, and its chain leads to index 0 by no more items than records
-- follow the head, all taken.
pub record Whole (m : Meaning) (id drive mode : ℕ) (bytes : List ℕ) (p : Progress) : Type 0 where
  pub long : bad_length (length bytes) ≡ false
  pub headed : is_head drive mode (record_at bytes 0) ≡ true
  pub items : List Item
  pub leads : Leads bytes (byte (record_at bytes 0) 1) items 0
  pub few : length items ≤ records bytes - 1
  pub takes : Takes (step m id) items start p

-- Why a load of these bytes has this outcome.
abbrev pub Because : Meaning → (id drive mode : ℕ) → List ℕ → Result Progress LoadFault → Type 0
Because m id drive mode bytes (Err Length) = bad_length (length bytes) ≡ true
Because m id drive mode bytes (Err Head) = (bad_length (length bytes) ≡ false) × (is_head drive mode (record_at bytes 0) ≡ false)
Because m id drive mode bytes (Ok p) = Whole m id drive mode bytes p
Because m id drive mode bytes (Err (Chain at)) =
    (bad_length (length bytes) ≡ false) × (is_head drive mode (record_at bytes 0) ≡ true)
    × Story (step m id) bytes (records bytes - 1) (byte (record_at bytes 0) 1) start (Err (Chain at))
Because m id drive mode bytes (Err (Record at)) =
    (bad_length (length bytes) ≡ false) × (is_head drive mode (record_at bytes 0) ≡ true)
    × Story (step m id) bytes (records bytes - 1) (byte (record_at bytes 0) 1) start (Err (Record at))
Because m id drive mode bytes (Err (Call why at)) =
    (bad_length (length bytes) ≡ false) × (is_head drive mode (record_at bytes 0) ≡ true)
    × Story (step m id) bytes (records bytes - 1) (byte (record_at bytes 0) 1) start (Err (Call why at))

-- Every load ends for such a reason, and a file that is right in all this is loaded.
pub record Told (m : Meaning) (id drive mode : ℕ) : Type 0 where
  pub because : (bytes : List ℕ) → Because m id drive mode bytes (loads m id drive mode bytes)
  pub whole : (bytes : List ℕ) (p : Progress) → Whole m id drive mode bytes p → loads m id drive mode bytes ≡ Ok p

-- Why a load or a store is refused.
--   number   what the refusal goes by
--   at       the index of the record that a fault of load names
-- Assumes nothing.
use Rattle.std.specs.Prelude.{ℕ}
use Rattle.law.specs.Refusals.{numbered}
use Rattle.stored.specs.declared.fault.LoadFault.{LoadFault}
use Rattle.stored.specs.declared.fault.LoadFault.TheVariants.{Length, Head, Chain, Record, Call}
use Rattle.stored.specs.declared.fault.StoreFault.{StoreFault}
use Rattle.stored.specs.declared.fault.StoreFault.TheVariants.{TryOpen, IsBarren, Short}

-- A fault of load, by its number.
abbrev pub load_number : LoadFault → ℕ
load_number Length = 10
load_number Head = 11
load_number (Chain at) = 12
load_number (Record at) = 13
load_number (Call why at) = numbered why

-- The index that it names.
abbrev pub load_at : LoadFault → ℕ
load_at Length = 0
load_at Head = 0
load_at (Chain at) = at
load_at (Record at) = at
load_at (Call why at) = at

-- A fault of store, by its number.
abbrev pub store_number : StoreFault → ℕ
store_number TryOpen = 15
store_number IsBarren = 7
store_number Short = 14

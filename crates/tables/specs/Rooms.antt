-- The memory of a sheet.
-- Assumes nothing.
use Rattle.std.specs.Prelude.{◌≡◌, vec_len}
use Rattle.tables.specs.declared.room.Room.{Room}
use Rattle.tables.specs.declared.tables.Tables.{Tables}

-- It holds nothing yet.
pub record Unused (room : Room) : Type 0 where
  pub no_lines : vec_len room.lines.windows ≡ 0
  pub no_rules : vec_len room.rules.items ≡ 0
  pub no_tries : vec_len room.tries ≡ 0

-- It is the memory of these tables.
pub record RoomOf (t : Tables) (room : Room) : Type 0 where
  pub lines : room.lines ≡ t.lines
  pub rules : room.rules ≡ t.rules
  pub tries : room.tries ≡ t.tries

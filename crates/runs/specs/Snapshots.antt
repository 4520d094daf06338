-- Windows put aside.
-- Assumes nothing.
use Rattle.std.specs.Prelude.{List, take}
use Rattle.windows.specs.declared.window.Window.{Window}
use Rattle.runs.specs.declared.lines.Snapshot.{Snapshot}

-- The windows that a snapshot holds.
abbrev pub kept : Snapshot → List Window
kept s = take s.count s.windows

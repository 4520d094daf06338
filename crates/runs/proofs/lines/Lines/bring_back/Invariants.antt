use Rattle.std.proofs.Common.{◌≡◌, take, vec_items, vec_len, vec_capacity}
use Rattle.runs.specs.Snapshots.{kept}
use Rattle.runs.proofs.lines.Lines.bring_back.Given as goal

abbrev pub invariant-loop-window : goal.invariant-loop-window
invariant-loop-window l = (vec_items l.self.windows ≡ take l.window-index (kept l.snapshot)) × (vec_len l.self.windows ≡ l.window-index) × (vec_capacity l.self.windows ≡ vec_capacity l.initial.self.windows)

-- What accepted calls make of a core, with the next state left open.
-- Assumes nothing.
use Rattle.std.specs.Prelude.{◌≡◌, ℕ, ◌-◌, [], ◌∷◌, ◌++◌, drop, slice_index_or, slice_set}
use Rattle.windows.specs.Spans.{Span}
use Rattle.law.specs.declared.calls.Rule.{Rule}
use Rattle.law.specs.declared.calls.State.{State}
use Rattle.law.specs.Sheets.{Core, Model}

-- One more line.
abbrev pub lined_as : State → Core → Span → Core
lined_as next c w = record { state = next; windows = c.windows ++ (w ∷ []); rules = c.rules }

-- One more rule.
abbrev pub ruled_as : State → Core → Rule → Core
ruled_as next c r = record { state = next; windows = c.windows; rules = c.rules ++ (r ∷ []) }

-- Another window for line k.
abbrev pub pinched_as : State → Core → ℕ → Span → Core
pinched_as next c k w = record { state = next; windows = slice_set c.windows (k - 1) w; rules = c.rules }

-- A try begins: the core is put aside.
abbrev pub opened_as : Model → Model
opened_as s = record { core = s.core; saved = s.core ∷ s.saved }

-- The innermost try ends, and what was done stays.
abbrev pub kept_as : Model → Model
kept_as s = record { core = s.core; saved = drop 1 s.saved }

-- The innermost try ends, and what its open found is back.
abbrev pub struck_as : Model → Model
struck_as s = record { core = slice_index_or s.saved 0 s.core; saved = drop 1 s.saved }

-- The rules and the open tries, with what they put aside, are the same.
pub record SameRulesAndTries (s t : Model) : Type 0 where
  pub rules : t.core.rules ≡ s.core.rules
  pub tries : t.saved ≡ s.saved

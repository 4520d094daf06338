-- Boxes of windows, one window for each line.
--   within   a box lies within another: each of its windows lies within the other's
--   held     each end of each of a rule's windows belongs to a satisfying choice in the box
--   stands   the box holds every rule so
-- Assumes nothing.
use Rattle.std.specs.Prelude.{ℕ, ◌<◌, List, length, slice_index_or}
use Rattle.windows.specs.Spans.{Span, nowhere, Every, Ordered, Within}
use Rattle.windows.specs.Choices.{EndsSupported}
use Rattle.windows.specs.Meanings.{Meaning}
use Rattle.law.specs.declared.calls.Rule.{Rule}
use Rattle.law.specs.declared.calls.Call.{Call}
use Rattle.law.specs.Sheets.{windows_of}
use Rattle.law.specs.Force.{rules_in, windows_in}

-- Each end of each of the rule's windows belongs to a satisfying choice in the box ws.
unfoldable pub Held : Meaning → List Span → Rule → Type 0
Held m ws r =
    (i : ℕ) → i < length (windows_of m ws r) →
    EndsSupported (m.related r.kind) (windows_of m ws r) i (slice_index_or (windows_of m ws r) i nowhere)

-- vs is a box that stands, for the rules, and lies within the box ws.
pub record StandsWithin (m : Meaning) (rules : List Rule) (ws vs : List Span) : Type 0 where
  pub ordered : Every Ordered vs
  pub within : Within vs ws
  pub stands : Every (Held m vs) rules

-- ws is the greatest box that stands within the windows in force.
pub record Greatest (m : Meaning) (cs : List Call) (ws : List Span) : Type 0 where
  pub stands : StandsWithin m (rules_in cs) (windows_in cs) ws
  pub greatest : (vs : List Span) → StandsWithin m (rules_in cs) (windows_in cs) vs → Within vs ws

-- No box stands within the windows in force.
abbrev pub NoneStands : Meaning → List Call → Type 0
NoneStands m cs = (vs : List Span) → StandsWithin m (rules_in cs) (windows_in cs) vs → ⊥

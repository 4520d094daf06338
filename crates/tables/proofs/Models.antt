-- Sheets that differ in one part. Assumes nothing.
use Rattle.std.proofs.Common.{◌≡◌, List}
use Rattle.windows.specs.Spans.{Span}
use Rattle.law.specs.declared.calls.Rule.{Rule}
use Rattle.law.specs.declared.calls.State.{State}
use Rattle.law.specs.Sheets.{Core, Model}

-- A sheet, by its parts.
abbrev pub sheet : State → List Span → List Rule → List Core → Model
sheet state ws rs saved = record { core = record { state = state; windows = ws; rules = rs }; saved = saved }

-- Equal parts make equal sheets.
pub same_sheet : (s s' : State) (ws vs : List Span) (rs qs : List Rule) (saved kept : List Core) → s ≡ s' → ws ≡ vs → rs ≡ qs → saved ≡ kept → sheet s ws rs saved ≡ sheet s' vs qs kept
same_sheet s s' ws vs rs qs saved kept o p q k = λ i. sheet (o i) (p i) (q i) (k i)

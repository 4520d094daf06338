-- The first words of the commands.
-- Assumes nothing.
use Rattle.std.specs.Prelude.{ℕ, List, [], ◌∷◌, codes, find, Option}
use Rattle.std.specs.Str.{bytes_eq}
use Rattle.commands.specs.declared.verb.Verb.{Verb}

-- The bytes of each.
abbrev pub spelled : Verb → List ℕ
spelled Verb.Sheet = codes "sheet"
spelled Verb.Use = codes "use"
spelled Verb.Line = codes "line"
spelled Verb.Rule = codes "rule"
spelled Verb.Pinch = codes "pinch"
spelled Verb.Settle = codes "settle"
spelled Verb.Open = codes "open"
spelled Verb.Keep = codes "keep"
spelled Verb.Strike = codes "strike"
spelled Verb.Window = codes "window"
spelled Verb.State = codes "state"
spelled Verb.Lines = codes "lines"
spelled Verb.Store = codes "store"
spelled Verb.Load = codes "load"
spelled Verb.Value = codes "value"
spelled Verb.Help = codes "help"

-- All of them.
abbrev pub all : List Verb
all =
    Verb.Sheet ∷ Verb.Use ∷ Verb.Line ∷ Verb.Rule ∷ Verb.Pinch ∷ Verb.Settle ∷ Verb.Open ∷ Verb.Keep ∷ Verb.Strike ∷ Verb.Window
    ∷ Verb.State ∷ Verb.Lines ∷ Verb.Store ∷ Verb.Load ∷ Verb.Value ∷ Verb.Help ∷ []

-- What the first word of a line is: the first of them that it spells.
abbrev pub verb : List ℕ → Option Verb
verb w = find (λ v. bytes_eq w (spelled v)) all

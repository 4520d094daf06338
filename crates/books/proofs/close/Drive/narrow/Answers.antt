-- A kind that the drive has, and windows up to its top: what is closed is the answer.
use Rattle.std.proofs.Common.{◌≡◌, ℕ, ◌<◌, List, Some, None, Ok, Option, sym, ◌∙◌, subst, arith}
use Rattle.boxes.specs.declared.triple.Triple.{Triple}
use Rattle.windows.specs.Spans.{Span}
use Rattle.windows.specs.declared.window.Window.{Window}
use Rattle.books.specs.declared.kind.Kind.{Kind}
use Rattle.books.specs.declared.kind.Kind.TheVariants.{Travel, Sum, Later, NotAfter}
use Rattle.books.specs.Kinds.{Meets, MeetsOf, among, lines, lines_of}
use Rattle.books.specs.Narrowings.{Answered, Closing, UpTo, read, spans}
use Rattle.books.proofs.close.Drive.narrow.Goals as goal

-- Every kind names some lines.
some : (kind : Kind) → 0 < lines kind
some Travel = omega arith
some Sum = omega arith
some Later = omega arith
some NotAfter = omega arith

-- Windows that a kind reads up to the top fit it, and what is closed of them is the answer.
told : (p s : ℕ → ℕ → ℕ) (top : ℕ) (kind : Kind) (ws : List Span) (r : Option (Triple Window)) →
    UpTo top (read (lines kind) ws) → Closing (lines kind) (Meets p s top kind) ws r → Answered top (lines kind) (Meets p s top kind) ws (Ok r)
told p s top kind ws None low none = (record { known = some kind; up_to = low }, none)
told p s top kind ws (Some t) low box = (record { known = some kind; up_to = low }, box)

pub returns : goal.returns
returns g c =
    let p = g.P.Operation.code c.args.self.now.product in
    let s = g.S.Operation.code c.args.self.now.sum in
    let top = c.args.self.now.top in
    let ws = spans c.args.windows in
    let found : Some c.in-Some.kind ≡ among c.args.self.now.kinds c.args.number = sym c.in-Some.is ∙ c.among.ensures in
    subst (λ k. Answered top (lines_of k) (MeetsOf p s top k) ws (Ok c.close.result)) found
    (told p s top c.in-Some.kind ws c.close.result c.if-not-fits.ensures c.close.ensures)

-- Each kind's box is made by its own closer; the answer is told of the kind at hand.
use Rattle.std.proofs.Common.{◌≡◌, ℕ, List, Option, sym, subst, arith}
use Rattle.codes.specs.Operations.{later}
use Rattle.boxes.specs.declared.triple.Triple.{Triple}
use Rattle.windows.specs.Spans.{Span}
use Rattle.windows.specs.declared.window.Window.{Window}
use Rattle.books.specs.declared.kind.Kind.{Kind}
use Rattle.books.specs.Kinds.{Made, Meets, lines}
use Rattle.books.specs.Narrowings.{Closing, spans}
use Rattle.books.proofs.close.Drive.close.Goals as goal

-- What is closed for a kind is closed for a kind that equals it.
moved : (p s : ℕ → ℕ → ℕ) (top : ℕ) (k k' : Kind) (ws : List Span) (r : Option (Triple Window)) → k ≡ k' → Closing (lines k') (Meets p s top k') ws r → Closing (lines k) (Meets p s top k) ws r
moved p s top k k' ws r e h = subst (λ (j : Kind). Closing (lines j) (Meets p s top j) ws r) (sym e) h

-- Travel by the drive's product, sum by its sum.
pub returns-in-Travel : goal.returns-in-Travel
returns-in-Travel g c = moved _ _ _ _ _ _ _ c.in-Travel.is c.by_operation.ensures

pub returns-in-Sum : goal.returns-in-Sum
returns-in-Sum g c = moved _ _ _ _ _ _ _ c.in-Sum.is c.by_operation-in-Sum.ensures

-- Later by the greater code: a top up to 65535 is not cut.
pub returns-in-Later : goal.returns-in-Later
returns-in-Later g c =
    let same : c.new.result.top ≡ c.args.self.now.top = omega (arith, c.args.self.now.small) in
    moved _ _ _ _ _ _ _ c.in-Later.is (subst (λ (t : ℕ). Closing 3 (Made (later t)) (spans c.args.windows) c.by_operation-in-Later.result) same c.by_operation-in-Later.ensures)

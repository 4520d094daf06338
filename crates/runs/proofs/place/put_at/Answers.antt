use Rattle.std.proofs.Common.{map, set, ap, ◌∙◌}
use Rattle.std.proofs.lemmas.List.{map-set}
use Rattle.windows.specs.Windows.{span}
use Rattle.runs.proofs.place.put_at.Goals as goal

-- there is such a line
pub returns-then-place-lines : goal.returns-then-place-lines
returns-then-place-lines c =
    map-set span c.args.lines.now c.place_of-place.result c.args.w
    ∙ ap (λ k. set (map span c.args.lines.now) k (span c.args.w)) c.place_of-place.ensures

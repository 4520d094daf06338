use Rattle.std.proofs.Common.{[], None, unwrap_or, ap, ◌∙◌}
use Rattle.std.specs.List.{last_or}
use Rattle.std.proofs.lemmas.Iterator.{items_from_drains}
use Rattle.std.proofs.lemmas.Iterator.Consumers.{YieldsList-from_first}
use Rattle.commands.specs.Words.{words}
use Rattle.commands.proofs.Many.{last_word}
use Rattle.commands.proofs.hex.last_word.Goals as goal

pub returns : goal.returns
returns c =
    let ran = c.last.ensures.ran in
    let items = items_from_drains ran.0 (ran.1.1.0, ran.1.1.1, λ w. (ran.1.0, ran.1.1.2)) (YieldsList-from_first (λ x. x.now) (λ ws. ws) (words c.args.line.now) c.new.ensures) in
    last_word _ _ _ ran.0 c.unwrap_or.ensures ran.2 ∙ ap (λ ws. unwrap_or (last_or None ws) []) items

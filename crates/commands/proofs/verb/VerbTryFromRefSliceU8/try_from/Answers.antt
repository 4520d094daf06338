use Rattle.std.proofs.Common.{ap, ◌∙◌, rules}
use Rattle.std.specs.Str.{bytes_eq}
use Rattle.std.specs.Option.{ok_or}
use borrow.Author.Tests.{tests}
use Rattle.std.proofs.lemmas.Iterator.{YieldsList-from_slice}
use Rattle.std.proofs.lemmas.Iterator.Search.{find_from_yields_List}
use Rattle.commands.specs.declared.command.Unreadable.TheVariants.{NoCommand}
use Rattle.commands.specs.Verbs.{all, spelled}
use Rattle.commands.proofs.verb.VerbTryFromRefSliceU8.try_from.Goals as goal

pub returns : goal.returns
returns c =
    let e = find_from_yields_List (λ v. bytes_eq c.args.word.now (spelled v)) _ _ c.find.result c.find.ensures.ran (YieldsList-from_slice all cc) (λ x b q k. search (rules, tests)) in
    c.ok_or.ensures.value ∙ ap (λ o. ok_or o NoCommand) (c.copied.ensures ∙ e)

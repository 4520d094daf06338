use Rattle.std.proofs.Common.{◌≡◌, true, sym, ◌∙◌, rules}
use Rattle.std.specs.Char.{is_ascii_digit}
use borrow.Author.Tests.{tests}
use Rattle.std.proofs.lemmas.Iterator.{YieldsList-from_slice}
use Rattle.std.proofs.lemmas.Iterator.Search.{all_from_yields_List}
use Rattle.commands.specs.Numbers.{is_decimal}
use Rattle.commands.proofs.number.read_number.Goals as goal

pub spelled_value-requires : goal.spelled_value-requires
spelled_value-requires c =
    sym (all_from_yields_List is_ascii_digit _ _ c.all.result c.all.ensures.ran (YieldsList-from_slice c.args.word.now cc) (λ x b q k. search (rules, tests)))
    ∙ c.if-not-all.false

pub returns : goal.returns
returns c =
    let e : is_decimal c.args.word.now ≡ true =
    sym (all_from_yields_List is_ascii_digit _ _ c.all.result c.all.ensures.ran (YieldsList-from_slice c.args.word.now cc) (λ x b q k. search (rules, tests)))
    ∙ c.if-not-all.false in
    rw e (c.ok_or.ensures.value ∙ rw c.spelled_value.ensures)

use Rattle.std.proofs.Common.{◌≡◌, not, eqb, [], sym, ◌∙◌, rules}
use borrow.Author.Tests.{tests}
use Rattle.std.proofs.lemmas.Iterator.{YieldsList-from_slice}
use Rattle.std.proofs.lemmas.Iterator.Search.{position_from_yields_List}
use Rattle.commands.proofs.Runs.{first_word, no_word}
use Rattle.commands.proofs.words.WordsIterator.next.Goals as goal

pub returns-in_err-start-clause-steps : goal.returns-in_err-start-clause-steps
returns-in_err-start-clause-steps c =
    let s = position_from_yields_List (λ b. not (eqb b 32)) _ _ c.position.result c.position.ensures.ran (YieldsList-from_slice c.self.inside.rest.now cc) (λ x b q k. search (rules, tests)) in
    let e : c.args.self.now ≡ [] = sym c.self.view_is ∙ no_word _ (sym s ∙ c.in_err-start.was) in
    rw c.from_residual.ensures (e, e)

pub returns-clause-steps : goal.returns-clause-steps
returns-clause-steps c =
    let s = position_from_yields_List (λ b. not (eqb b 32)) _ _ c.position.result c.position.ensures.ran (YieldsList-from_slice c.self.inside.rest.now cc) (λ x b q k. search (rules, tests)) in
    let t = position_from_yields_List (λ b. eqb b 32) _ _ c.position-2.result c.position-2.ensures.ran (YieldsList-from_slice c.split_at.result.1.now cc) (λ x b q k. search (rules, tests)) in
    sym c.self.view_is
    ∙ first_word _ _ _ _ _ _ (sym s ∙ c.in_ok-start.was) c.split_at.ensures.back (c.unwrap_or-end.ensures ∙ rw t) c.split_at-2.ensures.front c.split_at-2.ensures.back

pub returns-clause-goes : goal.returns-clause-goes
returns-clause-goes c = let e = returns-clause-steps c in search (rules, e)

use Rattle.std.proofs.Common.{ℕ, List, map, reverse, vec_items, vec_len, sym, refl, ap, ◌∙◌, subst, rules}
use Rattle.law.specs.declared.calls.Rule.{Rule}
use Rattle.tables.specs.Marks.{Nested}
use Rattle.tables.specs.Views.{found}
use Rattle.tables.proofs.Marks.{nested_rule, found_rule}
use Rattle.tables.proofs.Models.{same_sheet}
use Rattle.tables.proofs.tables.Tables.add_rule.Goals as goal

-- the marks count no rule that is not there
pub invariant_of-self-then-len-lt128 : goal.invariant_of-self-then-len-lt128
invariant_of-self-then-len-lt128 c =
    let old = c.args.self.now in
    let nest = subst (λ (n : ℕ). Nested n (vec_items old.tries)) (sym c.push_reserved.ensures.len) (nested_rule (vec_len old.rules.items) (vec_items old.tries) old.nested) in
    record { few_tries = search rules; room_tries = search rules; nested = nest }

-- there is room for the rule
pub returns-then-len-lt128-clause-added : goal.returns-then-len-lt128-clause-added
returns-then-len-lt128-clause-added c = λ room.
    let old = c.args.self.now in
    let more = c.push_reserved.ensures.items in
    same_sheet _ _ _ _ _ _ _ _ refl refl more
    (ap reverse (ap (λ (rs : List Rule). map (found rs) (vec_items old.tries)) more
    ∙ found_rule (vec_items old.rules.items) c.args.rule (vec_items old.tries) (subst (λ (n : ℕ). Nested n (vec_items old.tries)) old.rules.items.ok.0 old.nested)))

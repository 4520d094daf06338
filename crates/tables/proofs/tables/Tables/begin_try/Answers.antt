use Rattle.std.proofs.Common.{ℕ, vec_items, sym, subst, arith, rules}
use Rattle.tables.specs.Marks.{Nested}
use Rattle.tables.proofs.Marks.{nested_open}
use Rattle.tables.proofs.tables.Tables.begin_try.Goals as goal

-- the new mark counts all rules
pub invariant_of-self : goal.invariant_of-self
invariant_of-self c =
    let old = c.args.self.now in
    let mark = c.mark-mark.result in
    let open-nested = nested_open (vec_items old.tries) mark (subst (λ (n : ℕ). Nested n (vec_items old.tries)) (sym c.mark-mark.ensures.rules) old.nested) in
    let nest = subst (λ (n : ℕ). Nested n (vec_items c.push_reserved.new.self)) c.mark-mark.ensures.rules (subst (Nested mark.rules) (sym c.push_reserved.ensures.items) open-nested) in
    record { few_tries = omega arith; room_tries = search rules; nested = nest }

use Rattle.std.proofs.Common.{vec_items, vec_len, arith, rules}
use Rattle.tables.proofs.Marks.{nested_pop}
use Rattle.tables.proofs.tables.Tables.keep_try.Goals as goal

-- the marks left are nested in the same rules
pub invariant_of-self : goal.invariant_of-self
invariant_of-self c =
    let old = c.args.self.now in
    let nest = nested_pop (vec_len old.rules.items) (vec_items old.tries) (vec_items c.pop.new.self) c.pop.result c.pop.ensures.items old.nested in
    record { few_tries = omega arith; room_tries = search rules; nested = nest }

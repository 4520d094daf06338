use Rattle.std.proofs.Common.{true, length, is_ok, vec_items, sym, refl, ap, ◌∙◌}
use mathlib.Core.Bool.{Bool-set}
use mathlib.Core.Logic.{∥∥₁_elim}
use Rattle.std.proofs.lemmas.List.{length_push}
use Rattle.desk.specs.declared.folder.tickets.Ending.{Ending}
use Rattle.desk.proofs.Hands.{last_innermost, less_in_step, others_same, over}
use Rattle.desk.proofs.folder.Folder.close.Goals as goal

pub unwrap-requires : goal.unwrap-requires
unwrap-requires g c =
    ∥∥₁_elim
    (last_innermost (vec_items c.pop.new.self) c.in-Some.field-0 c.in-Some.field-0.ticket c.loop-ticket.invariant c.in-Some.ensures.items refl)
    (Bool-set (is_ok c.strike.result) true) c.strike.ensures.accepts

pub loop-ticket-preserved : goal.loop-ticket-preserved
loop-ticket-preserved g c =
    let took = over _ _ _ _ Ending.Strike _ _ c.unwrap.result (rw c.unwrap.ensures at c.strike.ensures.step) in
    let items = c.in-Some.ensures.items in
    less_in_step (cc) c.strike.ensures.number c.loop-ticket.invariant c.strike.ensures.called took
    (sym (ap length items ∙ length_push (vec_items c.pop.new.self) c.in-Some.field-0))
    (others_same _ _ c.in-Some.field-0 items) c.pop.ensures.capacity

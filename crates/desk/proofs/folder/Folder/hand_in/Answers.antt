use Rattle.std.proofs.Common.{◌≡◌, vec_items, ap, arith}
use Rattle.sheet.specs.declared.ticket.Ticket.{Ticket}
use Rattle.desk.proofs.Hands.{over, put_back, same_in_step, spent_in_step, stays}
use Rattle.desk.proofs.folder.Folder.hand_in.Goals as goal

-- it is taken
pub invariant_of-self : goal.invariant_of-self
invariant_of-self g c =
    record {
      in_step =
          spent_in_step c.args.at c.remove-place.result (cc) c.give.ensures.number c.args.self.now.in_step c.give.ensures.called
          (over _ _ _ _ c.args.ending _ _ c.in-Ok.field-0 c.in-Ok.ensures.step)
          (omega (arith, c.args.self.now.hand.ok.0, c.requires)) c.remove-place.ensures.value
          (omega (arith, c.args.self.now.hand.ok.0, c.remove-place.new.self.ok.0, c.remove-place.ensures.len))
          c.remove-place.ensures.by_index.0 c.remove-place.ensures.capacity;
    }

-- it comes back
pub invariant_of-self-in-Err : goal.invariant_of-self-in-Err
invariant_of-self-in-Err g c =
    let back : c.in-Err.field-0.ticket ≡ c.remove-place.result.ticket = c.in-Err.ensures.ticket in
    record {
      in_step =
          same_in_step (cc) c.give.ensures.number
          (stays _ _ _ _ c.args.ending _ _ _ c.in-Err.ensures.step)
          (put_back (vec_items c.args.self.now.hand) (vec_items c.remove-place.new.self) (vec_items c.put_back.new.hand) c.args.at
          c.remove-place.result (record { place = c.remove-place.result.place; ticket = c.in-Err.field-0.ticket })
          (omega (arith, c.args.self.now.hand.ok.0, c.requires)) c.remove-place.ensures.value c.remove-place.ensures.items
          (ap (λ (t : Ticket). record { place = c.remove-place.result.place; ticket = t }) back) c.put_back.ensures.items)
          (omega (arith, c.put_back.ensures.room, c.remove-place.ensures.capacity)) c.args.self.now.in_step;
    }

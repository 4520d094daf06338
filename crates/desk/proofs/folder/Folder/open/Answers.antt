use Rattle.desk.proofs.Hands.{begun, more_in_step}
use Rattle.desk.proofs.folder.Folder.open.Goals as goal

pub invariant_of-self-2 : goal.invariant_of-self-2
invariant_of-self-2 g c =
    record {
      in_step =
          more_in_step (record { place = c.args.place; ticket = c.in_ok-ticket.ticket }) (cc) c.open.ensures.number c.args.self.now.in_step
          c.in_ok-ticket.ensures.called (begun _ _ _ _ _ _ c.in_ok-ticket.ensures.step) c.push_reserved.ensures.items c.push_reserved.ensures.capacity;
    }

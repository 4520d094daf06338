use Rattle.std.proofs.Common.{◌≡◌, vec_items, sym, refl, ap, ◌∙◌, arith}
use Rattle.sheet.specs.declared.ticket.Ticket.{Ticket}
use Rattle.desk.proofs.Hands.{other_refused, owned, put_back, same_in_step, turned_away}
use Rattle.desk.proofs.folder.Folder.turn_away.Goals as goal

-- the ticket is of the other sheet, so that this one stays
pub invariant_of-self : goal.invariant_of-self
invariant_of-self g c =
    let theirs = owned c.args.at c.remove-place.result c.args.source.now.in_step (omega (arith, c.args.source.now.hand.ok.0, c.requires.within)) c.remove-place.ensures.value in
    record {
      in_step =
          same_in_step (cc) c.give.ensures.number
          (turned_away _ _ _ _ c.args.ending _ _ c.give.result (λ e. c.requires.apart (sym e ∙ theirs)) c.give.ensures.step) refl (omega arith) c.args.self.now.in_step;
    }

-- and refuses it
pub unwrap_err-why-requires : goal.unwrap_err-why-requires
unwrap_err-why-requires g c =
    let theirs = owned c.args.at c.remove-place.result c.args.source.now.in_step (omega (arith, c.args.source.now.hand.ok.0, c.requires.within)) c.remove-place.ensures.value in
    other_refused _ _ _ _ c.args.ending _ _ c.give.result (λ e. c.requires.apart (sym e ∙ theirs)) c.give.ensures.step

-- it is put back
pub invariant_of-source : goal.invariant_of-source
invariant_of-source g c =
    let back : c.unwrap_err-why.result.ticket ≡ c.remove-place.result.ticket = rw c.unwrap_err-why.ensures at c.give.ensures.ticket in
    record {
      in_step =
          same_in_step refl refl refl
          (put_back (vec_items c.args.source.now.hand) (vec_items c.remove-place.new.self) (vec_items c.put_back.new.hand) c.args.at
          c.remove-place.result (record { place = c.remove-place.result.place; ticket = c.unwrap_err-why.result.ticket })
          (omega (arith, c.args.source.now.hand.ok.0, c.requires.within)) c.remove-place.ensures.value c.remove-place.ensures.items
          (ap (λ (t : Ticket). record { place = c.remove-place.result.place; ticket = t }) back) c.put_back.ensures.items)
          (omega (arith, c.put_back.ensures.room, c.remove-place.ensures.capacity)) c.args.source.now.in_step;
    }

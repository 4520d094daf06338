use Rattle.std.proofs.Common.{◌≡◌, ℕ, ◌-◌, List, [], ◌∷◌, get_or, Err, Result, sym, refl, ap, ◌∙◌, subst, ap₂, subst₂}
use Rattle.std.proofs.lemmas.Result.{err_from_is_err_and}
use Rattle.windows.specs.Meanings.{Meaning}
use Rattle.law.specs.declared.calls.Answer.{Answer}
use Rattle.law.specs.declared.calls.Refusal.{Refusal}
use Rattle.law.specs.Histories.{History, entry}
use Rattle.law.specs.Law.{Called}
use Rattle.law.specs.Sheets.{Model}
use Rattle.law.specs.Steps.{Reached, set_up}
use Rattle.tables.specs.Views.{model}
use Rattle.stored.specs.declared.fault.LoadFault.{LoadFault}
use Rattle.stored.specs.declared.fault.LoadFault.TheVariants.{Call}
use Rattle.stored.specs.declared.item.Item.{Item}
use Rattle.stored.specs.Loads.{Progress, chain, progress, step, walk, on}
use Rattle.stored.specs.Records.{records, record_at, byte, call_of}
use Rattle.stored.proofs.Walks.{walk_done, walk_closed, walk_on, step_taken, step_refused, filled_fault, filled_whole}
use Rattle.stored.proofs.load.take_chain.Goals as goal

-- an empty sheet, and the whole walk
pub loop-at-init : goal.loop-at-init
loop-at-init g c =
    let m : Meaning = g.B.Book.meaning c.args.sheet.now.book in
    let id : ℕ = c.args.sheet.now.number in (
      [],
      subst (Reached m id []) (sym c.requires.fresh) set_up,
      ap₂ (λ (r : List ℕ) (s : Model). walk (step m id) c.args.bytes.now (records c.args.bytes.now - 1) (get_or r 1 0) (progress [] s)) c.record_at.ensures c.requires.fresh,
      refl,
      refl,
    )

-- the record is not opened
pub returns-in_err-item-clause-filled : goal.returns-in_err-item-clause-filled
returns-in_err-item-clause-filled g c =
    let m : Meaning = g.B.Book.meaning c.args.sheet.now.book in
    let id : ℕ = c.args.sheet.now.number in
    let bytes : List ℕ = c.args.bytes.now in
    let inv = c.loop-at.invariant in
    let h : History = inv.0 in
    let s : Model = model c.loop-at.sheet.tables in
    let p = err_from_is_err_and c.from_residual.result c.from_residual.ensures.1 in
    filled_fault m id s c.from_residual.result (chain m id bytes) p.0 p.1
    (sym inv.2 ∙ walk_closed (step m id) bytes c.loop-at.left c.loop-at.at (progress h s) p.0 c.loop-at-test.true (sym c.in_err-item.ensures ∙ ap Err (sym p.2)))

-- its call is turned away
pub returns-in_err-take_at-clause-filled : goal.returns-in_err-take_at-clause-filled
returns-in_err-take_at-clause-filled g c =
    let m : Meaning = g.B.Book.meaning c.args.sheet.now.book in
    let id : ℕ = c.args.sheet.now.number in
    let bytes : List ℕ = c.args.bytes.now in
    let inv = c.loop-at.invariant in
    let h : History = inv.0 in
    let s : Model = model c.loop-at.sheet.tables in
    let same : g.B.Book.meaning c.loop-at.sheet.book ≡ m =
    ap (λ b. g.B.Book.meaning b) inv.4 in
    let p = err_from_is_err_and c.from_residual-in_err-take_at.result c.from_residual-in_err-take_at.ensures.1 in
    let e = c.in_err-take_at.ensures in
    let t : Model = model c.take_at.new.sheet.tables in
    let i : Item = c.in_ok-item.item in
    let why : Refusal = c.in_err-take_at.field-0.0.why in
    let called : Called m id s (call_of i) t (Answer.Refused why) =
    subst₂ (λ (x : Meaning) (n : ℕ). Called x n s (call_of i) t (Answer.Refused why)) same inv.3 e.called in
    let go : Progress → Result Progress LoadFault = λ q. walk (step m id) bytes (c.loop-at.left - 1) (byte (record_at bytes c.loop-at.at) 1) q in
    filled_fault m id t c.from_residual-in_err-take_at.result (chain m id bytes) p.0 p.1
    (sym inv.2
    ∙ walk_on (step m id) bytes c.loop-at.left c.loop-at.at (progress h s) i c.loop-at-test.true (sym c.in_ok-item.ensures)
    ∙ ap (on c.loop-at.at go) (step_refused m id h s i t why inv.1 called)
    ∙ ap (λ (k : ℕ). Err (Call why k)) (sym e.placed)
    ∙ ap Err (sym p.2))

-- on to the next record
pub loop-at-preserved : goal.loop-at-preserved
loop-at-preserved g c =
    let m : Meaning = g.B.Book.meaning c.args.sheet.now.book in
    let id : ℕ = c.args.sheet.now.number in
    let bytes : List ℕ = c.args.bytes.now in
    let inv = c.loop-at.invariant in
    let h : History = inv.0 in
    let s : Model = model c.loop-at.sheet.tables in
    let same : g.B.Book.meaning c.loop-at.sheet.book ≡ m =
    ap (λ b. g.B.Book.meaning b) inv.4 in
    let e = c.in_ok-take_at.ensures in
    let t : Model = model c.take_at.new.sheet.tables in
    let i : Item = c.in_ok-item.item in
    let k : ℕ = c.in_ok-take_at.field-0 in
    let called : Called m id s (call_of i) t (Answer.Numbered k) =
    subst₂ (λ (x : Meaning) (n : ℕ). Called x n s (call_of i) t (Answer.Numbered k)) same inv.3 e.called in
    let more : History = entry (call_of i) (Answer.Numbered k) ∷ h in
    let go : Progress → Result Progress LoadFault = λ q. walk (step m id) bytes (c.loop-at.left - 1) (byte (record_at bytes c.loop-at.at) 1) q in (
      more,
      called.reached h inv.1,
      ap (λ (r : List ℕ). walk (step m id) bytes (c.loop-at.left - 1) (get_or r 1 0) (progress more t)) c.record_at-in-loop-at.ensures
          ∙ sym (ap (on c.loop-at.at go) (step_taken m id h s i t k inv.1 called))
          ∙ sym (walk_on (step m id) bytes c.loop-at.left c.loop-at.at (progress h s) i c.loop-at-test.true (sym c.in_ok-item.ensures))
          ∙ inv.2,
      e.number ∙ inv.3,
      e.book ∙ inv.4,
    )

-- the chain ended
pub returns-clause-filled : goal.returns-clause-filled
returns-clause-filled g c =
    let m : Meaning = g.B.Book.meaning c.args.sheet.now.book in
    let id : ℕ = c.args.sheet.now.number in
    let bytes : List ℕ = c.args.bytes.now in
    let inv = c.loop-at.invariant in
    let h : History = inv.0 in
    let s : Model = model c.loop-at.sheet.tables in
    filled_whole m id s h (chain m id bytes) inv.1 (sym inv.2 ∙ walk_done (step m id) bytes c.loop-at.left c.loop-at.at (progress h s) c.loop-at-test.false)

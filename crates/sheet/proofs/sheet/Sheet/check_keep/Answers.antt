use Rattle.std.proofs.Common.{ℕ, sym, ◌∙◌}
use Rattle.std.proofs.lemmas.Result.{err_from_is_err_and}
use Rattle.windows.specs.Meanings.{Meaning}
use Rattle.sheet.proofs.Verdicts.{keep_barred, keep_cleared}
use Rattle.sheet.proofs.sheet.Sheet.check_keep.Goals as goal

-- the sheet's state turns the keep away
pub returns-in_err-admit : goal.returns-in_err-admit
returns-in_err-admit g c =
    let m : Meaning = g.B.Book.meaning c.args.self.now.book in
    let id : ℕ = c.args.self.now.number in
    let t = c.args.self.now.tables in
    let p = err_from_is_err_and c.from_residual.result c.from_residual.ensures.1 in
    rw (p.1, p.2) (sym (keep_barred t m id c.args.number c.args.depth _ (sym c.in_err-admit.ensures)))

-- or its ticket does, or nothing
pub returns : goal.returns
returns g c =
    let m : Meaning = g.B.Book.meaning c.args.self.now.book in
    let id : ℕ = c.args.self.now.number in
    let t = c.args.self.now.tables in
    c.check_ticket.ensures ∙ sym (keep_cleared t m id c.args.number c.args.depth _ (sym c.in_ok-admit.ensures))

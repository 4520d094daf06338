use Rattle.std.proofs.Common.{ℕ, ◌≤◌, sym, subst, ◌∙◌, ap}
use Rattle.stored.proofs.Rounds.{written_back}
use Rattle.stored.proofs.store.put_sheet.Goals as goal

-- what is written comes back under the sheet's number
pub returns-clause-back : goal.returns-clause-back
returns-clause-back g c =
    written_back (g.B.Book.meaning c.args.sheet.now.book) c.args.sheet.now.number c.args.sheet.now.number _ _ _ _ _ _ _ _ _ _
    (subst (λ (n : ℕ). n ≤ 65535) (sym (g.met.B.Book.top c.args.sheet.now.book)) g.met.B.Book.small) (λ k out. g.met.B.Book.same c.args.sheet.now.book k ∙ g.met.B.Book.within k out) c.DRIVE.ensures (c.mode_number.ensures ∙ ap (λ b. g.B.Book.mode b) c.book.ensures)
    c.all_windows-windows.ensures c.all_rules-rules.ensures c.put_file.ensures c.file_size.ensures

-- and under any
pub returns-clause-any : goal.returns-clause-any
returns-clause-any g c = λ h reached number.
    written_back (g.B.Book.meaning c.args.sheet.now.book) c.args.sheet.now.number number _ _ _ _ _ _ _ _ _ _
    (subst (λ (n : ℕ). n ≤ 65535) (sym (g.met.B.Book.top c.args.sheet.now.book)) g.met.B.Book.small) (λ k out. g.met.B.Book.same c.args.sheet.now.book k ∙ g.met.B.Book.within k out) c.DRIVE.ensures (c.mode_number.ensures ∙ ap (λ b. g.B.Book.mode b) c.book.ensures)
    c.all_windows-windows.ensures c.all_rules-rules.ensures c.put_file.ensures c.file_size.ensures h reached

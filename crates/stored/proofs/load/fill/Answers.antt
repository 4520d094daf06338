use Rattle.std.proofs.Common.{◌≡◌, ℕ, true, false, List, length, Err, sym, refl, ◌∙◌, subst, ap₂}
use Rattle.windows.specs.Meanings.{Meaning}
use Rattle.tables.specs.Views.{model}
use Rattle.stored.specs.declared.fault.LoadFault.TheVariants.{Length, Head}
use Rattle.stored.specs.Loads.{Filled, bad_length}
use Rattle.stored.specs.Records.{is_head, record_at}
use Rattle.stored.proofs.Walks.{filled_fault, loads_length, loads_head, loads_chain}
use Rattle.stored.proofs.load.fill.Goals as goal

-- the length
pub returns-then-badly_long-clause-filled : goal.returns-then-badly_long-clause-filled
returns-then-badly_long-clause-filled g c =
    let m : Meaning = g.B.Book.meaning c.args.sheet.now.book in
    let bytes : List ℕ = c.args.bytes.now in
    let bad : bad_length (length bytes) ≡ true = sym c.badly_long.ensures ∙ c.if-badly_long.true in
    filled_fault m c.args.sheet.now.number (model c.args.sheet.now.tables) (Err Length) _ Length refl (loads_length m _ _ _ bytes bad)

-- the head
pub returns-then-not-head_fits-clause-filled : goal.returns-then-not-head_fits-clause-filled
returns-then-not-head_fits-clause-filled g c =
    let m : Meaning = g.B.Book.meaning c.args.sheet.now.book in
    let bytes : List ℕ = c.args.bytes.now in
    let good : bad_length (length bytes) ≡ false = sym c.badly_long.ensures ∙ c.if-badly_long.false in
    let unfit : is_head g.B.Book.DRIVE (g.B.Book.mode c.args.sheet.now.book) (record_at bytes 0) ≡ false =
    ap₂ (λ b (r : List ℕ). is_head g.B.Book.DRIVE (g.B.Book.mode b) r) (sym c.book.ensures) (sym c.record_at.ensures)
    ∙ sym c.head_fits.ensures ∙ c.if-not-head_fits.true in
    filled_fault m c.args.sheet.now.number (model c.args.sheet.now.tables) (Err Head) _ Head refl (loads_head m _ _ _ bytes good unfit)

-- the chain
pub returns-clause-filled : goal.returns-clause-filled
returns-clause-filled g c =
    let m : Meaning = g.B.Book.meaning c.args.sheet.now.book in
    let bytes : List ℕ = c.args.bytes.now in
    let id : ℕ = c.args.sheet.now.number in
    let good : bad_length (length bytes) ≡ false = sym c.badly_long.ensures ∙ c.if-badly_long.false in
    let fit : is_head g.B.Book.DRIVE (g.B.Book.mode c.args.sheet.now.book) (record_at bytes 0) ≡ true =
    ap₂ (λ b (r : List ℕ). is_head g.B.Book.DRIVE (g.B.Book.mode b) r) (sym c.book.ensures) (sym c.record_at.ensures)
    ∙ sym c.head_fits.ensures ∙ c.if-not-head_fits.false in
    subst (Filled m id (model c.take_chain.new.sheet.tables) c.take_chain.result) (sym (loads_chain m id _ _ bytes good fit)) c.take_chain.ensures.filled

use Rattle.std.proofs.Common.{ℕ, List, [], get_or, take, vec_items, sym, refl, ◌∙◌, subst₂}
use Rattle.std.proofs.lemmas.List.{take_more}
use Rattle.windows.specs.Meanings.{Meaning}
use Rattle.law.specs.declared.calls.Answer.{Answer}
use Rattle.law.specs.declared.calls.Call.{Call}
use Rattle.law.specs.Law.{Called, Played}
use Rattle.law.specs.Sheets.{Model}
use Rattle.law.proofs.Law.{played_none, played_more}
use Rattle.tables.specs.Views.{model}
use Rattle.sheet.proofs.sheet.replay.Replay.of.Goals as goal

-- no call has been played
pub loop-call-init : goal.loop-call-init
loop-call-init g c =
    let m : Meaning = g.B.Book.meaning c.in_ok-sheet.sheet.book in
    let new = c.in_ok-sheet.ensures in
    (new.number, refl, subst₂ (λ (answers : List Answer) (s : Model). Played m c.args.number [] answers s) (sym c.new-answers.ensures.items) (sym new.empty) (played_none m c.args.number))

-- one call more
pub loop-call-preserved : goal.loop-call-preserved
loop-call-preserved g c =
    let m : Meaning = g.B.Book.meaning c.in_ok-sheet.sheet.book in
    let old = c.loop-call.invariant in
    let i : ℕ = c.loop-call.call-index in
    let call : Call = get_or c.args.calls.now i (Call.Line 0 0) in
    let before : Model = model c.loop-call.sheet.tables in
    let after : Model = model c.play-answer.new.self.tables in
    let called : Called m c.args.number before call after c.play-answer.result =
    subst₂ (λ (b : g.row.B.Denot) (id : ℕ). Called (g.B.Book.meaning b) id before call after c.play-answer.result) old.1 old.0 c.play-answer.ensures.called in
    let played = played_more m c.args.number (take i c.args.calls.now) (vec_items c.loop-call.answers) before after call c.play-answer.result old.2 called in (
      c.play-answer.ensures.number ∙ old.0,
      c.play-answer.ensures.book ∙ old.1,
      subst₂ (λ (calls : List Call) (answers : List Answer). Played m c.args.number calls answers after) (sym (take_more c.args.calls.now i (Call.Line 0 0) c.loop-call-test.true)) (sym c.in_ok-push.ensures.items) played,
    )

use Rattle.std.proofs.Common.{◌<◌, vec_len, refl, arith}
use Rattle.desk.proofs.Present.{on_last}
use Rattle.desk.proofs.desk.Desk.plain.Goals as goal

-- the present sheet is the last, before and after
pub returns-clause-present : goal.returns-clause-present
returns-clause-present c =
    let some : 0 < vec_len c.args.self.now.folders = c.in-Some.ensures.variant.0 refl in
    on_last _ _ c.in-Some.present.now c.plain.new.self (omega (arith, c.args.self.now.folders.ok.0)) c.in-Some.ensures.value
    (record {
      answer = c.plain.result;
      called = c.plain.ensures.called;
      said = c.reply_to.ensures;
      number = c.plain.ensures.number;
      hand = c.plain.ensures.hand;
    })

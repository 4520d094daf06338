use Rattle.std.proofs.Common.{ℕ, List, false, get_or, subst, arith, rules}
use Rattle.std.specs.Fmt.{HasWritten}
use Rattle.std.proofs.lemmas.Fmt.{hex_byte}
use Rattle.std.proofs.lemmas.Grind.{put_two}
use Rattle.commands.specs.Prints.{pair_of}
use Rattle.commands.proofs.Texts.{hex_more}
use Rattle.commands.proofs.print.HexDisplay.fmt.Goals as goal

pub loop-byte-preserved : goal.loop-byte-preserved
loop-byte-preserved g c =
    λ p. let byte : ℕ = get_or c.args.self.now.0.now c.loop-byte.byte-index 0 in
    let before = c.loop-byte.invariant p in
    let here : HasWritten g.W.Write.write_str_gives c.loop-byte.f (pair_of byte) c.write.new.self =
    subst (λ (l : List ℕ). HasWritten g.W.Write.write_str_gives c.loop-byte.f l c.write.new.self) (hex_byte false byte (omega arith)) (search rules) in
    put_two _ _ _ _ _ _ _ before here (hex_more c.args.self.now.0.now c.loop-byte.byte-index (omega arith))

use Rattle.std.proofs.Common.{◌≡◌, ℕ, ◌/◌, ◌%◌, List, [], ◌∷◌, ◌++◌, get_or, take, string_bytes, ap, ◌∙◌, append_assoc, arith, rules}
use Rattle.commands.specs.Prints.{glyph, hex_text, pair_of}
use Rattle.commands.proofs.Texts.{hex_more}
use Rattle.commands.proofs.print.push_hex.Goals as goal

-- one more byte: its two digits
pub loop-byte-preserved : goal.loop-byte-preserved
loop-byte-preserved c =
    let byte : ℕ = get_or c.args.bytes.now c.loop-byte.byte-index 0 in
    let first : string_bytes c.push.new.self ≡ string_bytes c.loop-byte.text ++ (glyph (byte / 16) ∷ []) = search rules in
    let second : string_bytes c.push-in-loop-byte.new.self ≡ string_bytes c.push.new.self ++ (glyph (byte % 16) ∷ []) = search rules in
    let before : List ℕ = string_bytes c.args.text.now in
    let written : List ℕ = hex_text (take c.loop-byte.byte-index c.args.bytes.now) in
    let both : string_bytes c.push-in-loop-byte.new.self ≡ ((before ++ written) ++ (glyph (byte / 16) ∷ [])) ++ (glyph (byte % 16) ∷ []) =
    second ∙ ap (λ (l : List ℕ). l ++ (glyph (byte % 16) ∷ [])) (first ∙ ap (λ (l : List ℕ). l ++ (glyph (byte / 16) ∷ [])) c.loop-byte.invariant) in
    let apart : ((before ++ written) ++ (glyph (byte / 16) ∷ [])) ++ (glyph (byte % 16) ∷ []) ≡ before ++ (written ++ pair_of byte) = simp append_assoc in
    both ∙ apart ∙ ap (λ (l : List ℕ). before ++ l) (hex_more c.args.bytes.now c.loop-byte.byte-index (omega arith))

-- What the desk prints, byte for byte. Byte 10 ends a line.
--   row      the line of a window: its number, its lower and its upper end
--   stored   how many bytes there are; and on the next line the bytes, two hexadecimal digits to each, the higher first
--   help     a line for each command, then `end`
-- Assumes nothing.
use Rattle.std.specs.Prelude.{ℕ, ◌+◌, ◌/◌, ◌%◌, cond, List, [], ◌∷◌, ◌++◌, map, length, vec_items, codes, decimal, nat_lt}
use Rattle.std.specs.List.{flat_map}
use Rattle.windows.specs.Spans.{Span}
use Rattle.windows.specs.Windows.{span}
use Rattle.commands.specs.declared.print.Answer.{Answer}
use Rattle.commands.specs.declared.reply.Reply.{Reply}
use Rattle.commands.specs.Replies.{shown}
use Rattle.commands.specs.Values.{ExactEnd}

-- A line of three numbers.
abbrev pub triple : ℕ → ℕ → ℕ → List ℕ
triple k lo hi = decimal k ++ (codes " " ++ (decimal lo ++ (codes " " ++ (decimal hi ++ (10 ∷ [])))))

-- The line of the window of line number k.
abbrev pub row : ℕ → Span → List ℕ
row k w = triple k w.lo w.hi

-- The lines of the windows, numbered from k on.
unfoldable pub rows : ℕ → List Span → List ℕ
rows k [] = []
rows k (w ∷ ws) = row k w ++ rows (k + 1) ws

-- The lines of all windows, then `end`.
abbrev pub listed : List Span → List ℕ
listed ws = rows 1 ws ++ (codes "end" ++ (10 ∷ []))

-- A hexadecimal digit: 0 to 9, a to f.
abbrev pub glyph : ℕ → ℕ
glyph n = cond (nat_lt n 10) (48 + n) (87 + n)

-- A byte in hexadecimal.
abbrev pub pair_of : ℕ → List ℕ
pair_of b = glyph (b / 16) ∷ glyph (b % 16) ∷ []

-- Bytes in hexadecimal.
abbrev pub hex_text : List ℕ → List ℕ
hex_text bytes = flat_map pair_of bytes

-- A stored sheet.
abbrev pub stored : List ℕ → List ℕ
stored bytes = codes "stored " ++ (decimal (length bytes) ++ ((10 ∷ []) ++ (hex_text bytes ++ (10 ∷ []))))

-- The commands.
abbrev pub help : List ℕ
help =
    codes "sheet N counter" ++ (10 ∷ codes "sheet N half M") ++ (10 ∷ codes "use N") ++ (10 ∷ codes "line LO HI") ++ (10 ∷ codes "rule KIND A B C")
    ++ (10 ∷ codes "pinch L LO HI") ++ (10 ∷ codes "settle N") ++ (10 ∷ codes "open") ++ (10 ∷ codes "keep T") ++ (10 ∷ codes "strike T")
    ++ (10 ∷ codes "window L") ++ (10 ∷ codes "state") ++ (10 ∷ codes "lines") ++ (10 ∷ codes "store") ++ (10 ∷ codes "load N counter HEX")
    ++ (10 ∷ codes "load N half M HEX") ++ (10 ∷ codes "value L") ++ (10 ∷ codes "help") ++ (10 ∷ codes "end") ++ (10 ∷ [])

-- What is printed for an answer.
abbrev pub printed : Answer → List ℕ
printed (Answer.Short reply) = shown reply
printed (Answer.Lines windows) = listed (map span (vec_items windows))
printed (Answer.Stored bytes) = stored (vec_items bytes)
printed Answer.Help = help

-- The ends that a reply tells are exact, and none of their digits is needless.
abbrev pub ExactReply : Reply → Type 0
ExactReply (Reply.Value lo hi) = ExactEnd lo × ExactEnd hi
ExactReply _ = Unit {0}

-- So are those of every answer.
abbrev pub ExactAnswer : Answer → Type 0
ExactAnswer (Answer.Short reply) = ExactReply reply
ExactAnswer _ = Unit {0}

-- What a line means.
--   passed over  an empty line, a line of spaces, and a line whose first byte is # (byte 35): no command
--   read         else the first word names the command, and the others are its arguments, of which it takes a fixed count
-- The first thing that is wrong, from the left, is told; a word too many is told last.
-- Assumes nothing.
use Rattle.std.specs.Prelude.{ℕ, zero, suc, Bool, false, cond, List, [], ◌∷◌, Some, None, Ok, Err, codes, slice_index, unwrap_or, Option, Result, ◌==◌}
use Rattle.std.specs.List.{last_or}
use Rattle.std.specs.Option.{ok_or}
use Rattle.std.specs.Str.{bytes_eq}
use Rattle.commands.specs.declared.command.BookName.{BookName}
use Rattle.commands.specs.declared.command.Command.{Command}
use Rattle.commands.specs.declared.command.Unreadable.{Unreadable}
use Rattle.commands.specs.declared.verb.Verb.{Verb}
use Rattle.commands.specs.Numbers.{decoded, is_hex, number}
use Rattle.commands.specs.Verbs.{verb}
use Rattle.commands.specs.Words.{words}

-- What is read next, where nothing was wrong before.
abbrev pub and_then : {A B : Type 0} → Result A Unreadable → (A → Result B Unreadable) → Result B Unreadable
and_then (Ok a) next = next a
and_then (Err why) next = Err why

-- The number that the first word is, and the words after it.
abbrev pub next_number : List (List ℕ) → Result (ℕ × List (List ℕ)) Unreadable
next_number [] = Err Unreadable.Missing
next_number (w ∷ ws) = and_then (number w) (λ n. Ok (n, ws))

-- No word is left.
abbrev pub end : List (List ℕ) → Result (Unit {0}) Unreadable
end [] = Ok tt
end (w ∷ ws) = Err Unreadable.TooMany

-- What was read, where no word is left.
abbrev pub ended : {A : Type 0} → List (List ℕ) → A → Result A Unreadable
ended ws a = and_then (end ws) (λ _. Ok a)

-- So many numbers, and then no word.
unfoldable pub numbers : ℕ → List (List ℕ) → Result (List ℕ) Unreadable
numbers zero ws = ended ws []
numbers (suc k) ws = and_then (next_number ws) (λ n. and_then (numbers k n.1) (λ ns. Ok (n.0 ∷ ns)))

-- One number, and the command that two, three, four make, and then no word.
abbrev pub one : List (List ℕ) → Result ℕ Unreadable
one ws = and_then (numbers 1 ws) (λ ns. Ok (slice_index ns 0))

abbrev pub two : (ℕ → ℕ → Command) → List (List ℕ) → Result Command Unreadable
two make ws = and_then (numbers 2 ws) (λ ns. Ok (make (slice_index ns 0) (slice_index ns 1)))

abbrev pub three : (ℕ → ℕ → ℕ → Command) → List (List ℕ) → Result Command Unreadable
three make ws = and_then (numbers 3 ws) (λ ns. Ok (make (slice_index ns 0) (slice_index ns 1) (slice_index ns 2)))

abbrev pub four : (ℕ → ℕ → ℕ → ℕ → Command) → List (List ℕ) → Result Command Unreadable
four make ws = and_then (numbers 4 ws) (λ ns. Ok (make (slice_index ns 0) (slice_index ns 1) (slice_index ns 2) (slice_index ns 3)))

-- A book, and the words after it: `counter`, or `half` and a number.
abbrev pub next_book : List (List ℕ) → Result (BookName × List (List ℕ)) Unreadable
next_book [] = Err Unreadable.Missing
next_book (w ∷ ws) =
    cond (bytes_eq w (codes "counter")) (Ok (BookName.Counter, ws))
    (cond (bytes_eq w (codes "half")) (and_then (next_number ws) (λ m. Ok (BookName.Half m.0, m.1))) (Err Unreadable.NoBook))

-- A sheet's number, its book, and the words after them.
pub record Heading : Type 0 where
  pub number : ℕ
  pub book : BookName
  pub rest : List (List ℕ)

abbrev pub headed : ℕ → BookName → List (List ℕ) → Heading
headed number book rest = record { number = number; book = book; rest = rest }

abbrev pub heading : List (List ℕ) → Result Heading Unreadable
heading ws = and_then (next_number ws) (λ n. and_then (next_book n.1) (λ b. Ok (headed n.0 b.0 b.1)))

-- A word of bytes in hexadecimal, then no more.
abbrev pub file : List (List ℕ) → Result (Unit {0}) Unreadable
file [] = Err Unreadable.Missing
file (w ∷ ws) = cond (is_hex w) (end ws) (Err Unreadable.NoHex)

-- The command that a number and no more make.
abbrev pub by_one : (ℕ → Command) → List (List ℕ) → Result Command Unreadable
by_one make ws = and_then (one ws) (λ n. Ok (make n))

-- The command that a verb and the words after it are.
abbrev pub arguments : Verb → List (List ℕ) → Result Command Unreadable
arguments Verb.Sheet ws = and_then (heading ws) (λ h. ended h.rest (Command.Sheet h.number h.book))
arguments Verb.Use ws = by_one Command.Use ws
arguments Verb.Line ws = two Command.Line ws
arguments Verb.Rule ws = four Command.Rule ws
arguments Verb.Pinch ws = three Command.Pinch ws
arguments Verb.Settle ws = by_one Command.Settle ws
arguments Verb.Open ws = ended ws Command.Open
arguments Verb.Keep ws = by_one Command.Keep ws
arguments Verb.Strike ws = by_one Command.Strike ws
arguments Verb.Window ws = by_one Command.Window ws
arguments Verb.State ws = ended ws Command.State
arguments Verb.Lines ws = ended ws Command.Lines
arguments Verb.Store ws = ended ws Command.Store
arguments Verb.Load ws = and_then (heading ws) (λ h. and_then (file h.rest) (λ _. Ok (Command.Load h.number h.book)))
arguments Verb.Value ws = by_one Command.Value ws
arguments Verb.Help ws = ended ws Command.Help

-- The command of a line's words: its first word is a verb, and the others are its arguments.
abbrev pub by_words : List (List ℕ) → Result (Option Command) Unreadable
by_words [] = Ok None
by_words (w ∷ ws) = and_then (ok_or (verb w) Unreadable.NoCommand) (λ v. and_then (arguments v ws) (λ command. Ok (Some command)))

-- A line that begins with #.
abbrev pub is_comment : List ℕ → Bool
is_comment [] = false
is_comment (b ∷ bs) = b == 35

-- What a line means.
abbrev pub meaning : List ℕ → Result (Option Command) Unreadable
meaning line = cond (is_comment line) (Ok None) (by_words (words line))

-- The bytes that a line brings to load: those of its last word, and none where it has no word.
abbrev pub brought : List ℕ → List ℕ
brought line = decoded (unwrap_or (last_or None (words line)) [])

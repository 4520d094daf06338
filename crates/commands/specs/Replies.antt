-- What the desk prints for each answer, byte for byte. Byte 10 ends a line.
-- Assumes nothing.
use Rattle.std.specs.Prelude.{ℕ, List, [], ◌∷◌, ◌++◌, codes, decimal}
use Rattle.law.specs.declared.calls.State.{State}
use Rattle.commands.specs.declared.command.Unreadable.{Unreadable}
use Rattle.commands.specs.declared.reply.Fault.{Fault}
use Rattle.commands.specs.declared.reply.Reply.{Reply}
use Rattle.commands.specs.Values.{end_text}

-- Why a line cannot be read, in words.
abbrev pub reason : Unreadable → List ℕ
reason Unreadable.NoCommand = codes "no such command"
reason Unreadable.Missing = codes "a word is missing"
reason Unreadable.TooMany = codes "too many words"
reason Unreadable.NoNumber = codes "not a number"
reason Unreadable.TooLarge = codes "the number is too large"
reason Unreadable.NoBook = codes "no such book"
reason Unreadable.NoHex = codes "not bytes in hexadecimal"

-- A line that ends with a number.
abbrev pub numbered : List ℕ → ℕ → List ℕ
numbered text n = text ++ (decimal n ++ (10 ∷ []))

-- A line that ends with two numbers, with this text between them.
abbrev pub paired : List ℕ → ℕ → List ℕ → ℕ → List ℕ
paired text m between n = text ++ (decimal m ++ (between ++ (decimal n ++ (10 ∷ []))))

-- A fault: `error` and a short reason.
abbrev pub told : Fault → List ℕ
told (Fault.Unreadable why) = codes "error " ++ (reason why ++ (10 ∷ []))
told (Fault.NoSheet number) = numbered (codes "error no sheet ") number
told Fault.NonePresent = codes "error no sheet" ++ (10 ∷ [])
told (Fault.NoTicket place) = numbered (codes "error no ticket ") place
told (Fault.TryOpen number) = numbered (codes "error open try on sheet ") number
told Fault.TooManyTickets = codes "error no more tickets" ++ (10 ∷ [])

-- What two ends mean.
abbrev pub valued : List ℕ → List ℕ → List ℕ
valued lo hi = codes "value " ++ (lo ++ (codes " " ++ (hi ++ (10 ∷ []))))

-- A short answer: one line.
abbrev pub shown : Reply → List ℕ
shown (Reply.Sheet number) = numbered (codes "sheet ") number
shown (Reply.Line number) = numbered (codes "line ") number
shown (Reply.Rule number) = numbered (codes "rule ") number
shown Reply.Pinched = codes "pinched" ++ (10 ∷ [])
shown (Reply.Standing count) = numbered (codes "standing ") count
shown (Reply.Spent allowance) = numbered (codes "spent ") allowance
shown (Reply.Barren rule) = numbered (codes "barren ") rule
shown (Reply.Ticket place) = numbered (codes "ticket ") place
shown Reply.Kept = codes "kept" ++ (10 ∷ [])
shown Reply.Struck = codes "struck" ++ (10 ∷ [])
shown (Reply.Window lo hi) = paired (codes "window ") lo (codes " ") hi
shown (Reply.State State.Unsettled) = codes "unsettled" ++ (10 ∷ [])
shown (Reply.State State.Standing) = codes "standing" ++ (10 ∷ [])
shown (Reply.State State.Barren) = codes "barren" ++ (10 ∷ [])
shown (Reply.Refused number) = numbered (codes "refused ") number
shown (Reply.RefusedAt why at) = paired (codes "refused ") why (codes " at ") at
shown (Reply.Value lo hi) = valued (end_text lo) (end_text hi)
shown (Reply.Error fault) = told fault

-- The report of an outcome, byte for byte.
--   answer_row   the line of an answer of settle: its word and its number
--   refused_row  the line of a refusal: its number, and the index of the record
--   rows         a line for each window: its number, its lower and its upper end
--   report       the first line, and after an answer of settle the lines of all windows
--   printable    windows as a sheet can have them
-- A space (byte 32) stands between two words, byte 10 ends a line, and a number has no leading zeros. Assumes nothing.
use Rattle.std.specs.Prelude.{ℕ, ◌+◌, Bool, cond, ◌&&◌, List, [], ◌∷◌, ◌++◌, length, drop, codes, decimal, nat_le, Ok, Err}
use Rattle.std.specs.List.{list_all}
use Rattle.windows.specs.Spans.{Span}
use Rattle.runs.specs.declared.settled.Settled.{Settled}
use Rattle.report.specs.declared.refused.RefusedAt.{RefusedAt}
use Rattle.report.specs.Refused.{Outcome}

-- The line of an answer of settle.
abbrev pub answer_row : List ℕ → ℕ → List ℕ
answer_row word n = word ++ (32 ∷ (decimal n ++ (10 ∷ [])))

-- The line of a refusal.
abbrev pub refused_row : RefusedAt → List ℕ
refused_row r = codes "refused " ++ (decimal r.number ++ (codes " at " ++ (decimal r.at ++ (10 ∷ []))))

-- The line of the window of line number k.
abbrev pub window_row : ℕ → Span → List ℕ
window_row k w = decimal k ++ (32 ∷ (decimal w.lo ++ (32 ∷ (decimal w.hi ++ (10 ∷ [])))))

-- The lines of the windows, numbered from k on.
unfoldable pub rows : ℕ → List Span → List ℕ
rows k [] = []
rows k (w ∷ ws) = window_row k w ++ rows (k + 1) ws

-- The report: what settle answered and the windows, or the refusal's number and the index of the record.
abbrev pub report : Outcome → List Span → List ℕ
report (Ok (Settled.Standing count)) ws = answer_row (codes "standing") count ++ rows 1 ws
report (Ok (Settled.Spent allowance)) ws = answer_row (codes "spent") allowance ++ rows 1 ws
report (Ok (Settled.Barren rule)) ws = answer_row (codes "barren") rule ++ rows 1 ws
report (Err r) ws = refused_row r

-- A sheet has no more than 64 lines, and no code is above 65,535.
abbrev pub printable : List Span → Bool
printable ws = nat_le (length ws) 64 && list_all (λ w. nat_le w.hi 65535) ws

-- The memory with the text at its start; what was after it is as it was.
abbrev pub over : List ℕ → List ℕ → List ℕ
over text old = text ++ drop (length text) old

-- The memory after the report: where it has under 1,024 bytes, or the windows are no sheet's, it stays as it was.
abbrev pub after_report : Outcome → List Span → List ℕ → List ℕ
after_report outcome ws out = cond (nat_le 1024 (length out) && printable ws) (over (report outcome ws) out) out

-- The answer: the report's length, or 0 where none is written.
abbrev pub report_answer : Outcome → List Span → List ℕ → ℕ
report_answer outcome ws out = cond (nat_le 1024 (length out) && printable ws) (length (report outcome ws)) 0

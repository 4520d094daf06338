-- What the calls' results are as answers.
-- Assumes nothing.
use Rattle.std.specs.Prelude.{◌≡◌, ℕ, Ok, Err, Result}
use Rattle.law.specs.declared.calls.Answer.{Answer}
use Rattle.law.specs.declared.calls.Refusal.{Refusal}
use Rattle.law.specs.declared.calls.Rule.{Rule}
use Rattle.runs.specs.declared.settled.Settled.{Settled}
use Rattle.sheet.specs.declared.ticket.Ticket.{Ticket}
use Rattle.sheet.specs.declared.ticket.Returned.{Returned}
use Rattle.runs.specs.Rounds.{answered}

-- Of any call: what it gives, or its refusal.
abbrev pub given : Result Answer Refusal → Answer
given (Ok answer) = answer
given (Err why) = Answer.Refused why

-- Of a line or a rule.
abbrev pub numbered : Result ℕ Refusal → Answer
numbered (Ok k) = Answer.Numbered k
numbered (Err why) = Answer.Refused why

-- Of a pinch.
abbrev pub pinched : Result (Unit {0}) Refusal → Answer
pinched (Ok u) = Answer.Pinched
pinched (Err why) = Answer.Refused why

-- Of a settle.
abbrev pub settled : Result Settled Refusal → Answer
settled (Ok s) = answered s
settled (Err why) = Answer.Refused why

-- Of an open.
abbrev pub opened : Result Ticket Refusal → Answer
opened (Ok t) = Answer.Opened t.number t.depth
opened (Err why) = Answer.Refused why

-- Of a keep, and of a strike.
abbrev pub kept : Result (Unit {0}) Returned → Answer
kept (Ok u) = Answer.Kept
kept (Err back) = Answer.Refused back.why

abbrev pub struck : Result (Unit {0}) Returned → Answer
struck (Ok u) = Answer.Struck
struck (Err back) = Answer.Refused back.why

-- Of an open, by the depth of its try on the sheet of this number.
abbrev pub begun : ℕ → Result ℕ Refusal → Answer
begun number (Ok depth) = Answer.Opened number depth
begun number (Err why) = Answer.Refused why

-- Of a keep or a strike, without the ticket.
abbrev pub ended : Answer → Result (Unit {0}) Refusal → Answer
ended done (Ok u) = done
ended done (Err why) = Answer.Refused why

-- A refusal hands the ticket back.
abbrev pub returned : Ticket → Result (Unit {0}) Returned → Type 0
returned ticket (Ok u) = Unit {0}
returned ticket (Err back) = back.ticket ≡ ticket

-- A rule by its numbers.
abbrev pub named : ℕ → ℕ → ℕ → ℕ → Rule
named kind a b c = record { kind = kind; a = a; b = b; c = c }

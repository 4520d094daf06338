-- Histories: the calls made on a sheet since it was set up, each with its answer.
--   entry      a call and its answer
--   history    the entries, latest first
--   accepted   every answer that is no refusal
-- Assumes nothing.
use Rattle.std.specs.Prelude.{ℕ, ◌-◌, Bool, true, false, List, [], ◌∷◌, length, drop}
use Rattle.law.specs.declared.calls.Call.{Call}
use Rattle.law.specs.declared.calls.Answer.{Answer}

-- A call and its answer.
pub record Entry : Type 0 where
  pub call : Call
  pub answer : Answer

-- The entry of a call and its answer.
abbrev pub entry : Call → Answer → Entry
entry call answer = record { call = call; answer = answer }

-- Entries, latest first.
abbrev pub History : Type 0
History = List Entry

-- The answer is no refusal.
abbrev pub accepted : Answer → Bool
accepted (Answer.Numbered k) = true
accepted Answer.Pinched = true
accepted (Answer.Standing c) = true
accepted (Answer.Spent n) = true
accepted (Answer.Barren k) = true
accepted (Answer.Opened number depth) = true
accepted Answer.Kept = true
accepted Answer.Struck = true
accepted (Answer.Refused why) = false

-- The first n entries ever made.
abbrev pub earliest : ℕ → History → History
earliest n h = drop (length h - n) h

-- The entries h followed by calls made in this order, with their answers in the same order.
abbrev pub followed : History → List Call → List Answer → History
followed h [] answers = h
followed h (call ∷ calls) [] = h
followed h (call ∷ calls) (answer ∷ answers) = followed (entry call answer ∷ h) calls answers

-- The history of calls made in this order, with their answers in the same order.
unfoldable pub history : List Call → List Answer → History
history calls answers = followed [] calls answers

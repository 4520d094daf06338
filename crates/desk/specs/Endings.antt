-- Tickets handed to a sheet.
-- Assumes nothing.
use Rattle.std.specs.Prelude.{ℕ, Result}
use Rattle.commands.specs.declared.reply.Reply.{Reply}
use Rattle.law.specs.declared.calls.Answer.{Answer}
use Rattle.law.specs.declared.calls.Call.{Call}
use Rattle.sheet.specs.Answers.{kept, struck}
use Rattle.sheet.specs.declared.ticket.Returned.{Returned}
use Rattle.desk.specs.declared.folder.tickets.Ending.{Ending}

-- The call by which a try ends.
abbrev pub call_by : Ending → ℕ → ℕ → Call
call_by Ending.Keep number depth = Call.Keep number depth
call_by Ending.Strike number depth = Call.Strike number depth

-- Its answer.
abbrev pub ended : Ending → Result (Unit {0}) Returned → Answer
ended Ending.Keep r = kept r
ended Ending.Strike r = struck r

-- What is said of it.
abbrev pub said_of : Ending → Reply
said_of Ending.Keep = Reply.Kept
said_of Ending.Strike = Reply.Struck

-- What the desk does with a line, and what it says.
--   present   the last of the desk's sheets
--   replied   what is said of a call's answer; the answers that no plain call has are given a reply too
--   heard     a line that cannot be read changes nothing and is answered by its reason, and one that is passed over by nothing
-- Assumes nothing.
use Rattle.std.specs.Prelude.{◌≡◌, ℕ, true, false, List, [], ◌∷◌, ◌++◌, length, map, vec_items, Some, None, Ok, Err, Option, Result}
use Rattle.std.specs.declared.alloc.AllocError.{AllocError}
use Rattle.law.specs.declared.calls.Answer.{Answer}
use Rattle.law.specs.Law.{Called}
use Rattle.law.specs.Refusals as refusals
use Rattle.law.specs.Sheets.{Model, window}
use Rattle.law.specs.Table.{no_line}
use Rattle.commands.specs.declared.command.Command.{Command}
use Rattle.commands.specs.declared.command.Unreadable.{Unreadable}
use Rattle.commands.specs.declared.print.Answer.{Answer as Printed}
use Rattle.commands.specs.declared.reply.Fault.{Fault}
use Rattle.commands.specs.declared.reply.Reply.{Reply}
use Rattle.desk.specs.declared.desk.Desk.{Desk}
use Rattle.desk.specs.declared.folder.calls.Plain.{Plain}
use Rattle.desk.specs.declared.no_effect.NoEffect.{NoEffect}
use Rattle.desk.specs.declared.tended.Tended.{Tended}
use Rattle.desk.specs.Hands.{call_of}
use Rattle.desk.specs.Tended.{end_of, hand_of, meaning_of, model_of, number_of}
use Rattle.stored.specs.declared.fault.StoreFault.{StoreFault}
use Rattle.stored.specs.Faults.{store_number}
use Rattle.stored.specs.Stores.{stores}
use Rattle.windows.specs.Windows.{span}

-- What is said of the number of a new line or rule.
abbrev pub numbered : Plain → ℕ → Reply
numbered (Plain.Line lo hi) k = Reply.Line k
numbered (Plain.Rule kind a b c) k = Reply.Rule k
numbered (Plain.Pinch line lo hi) k = Reply.Line k
numbered (Plain.Settle n) k = Reply.Line k

-- What is said of a call's answer.
abbrev pub replied : Plain → Answer → Reply
replied call (Answer.Numbered k) = numbered call k
replied call Answer.Pinched = Reply.Pinched
replied call (Answer.Standing count) = Reply.Standing count
replied call (Answer.Spent allowance) = Reply.Spent allowance
replied call (Answer.Barren rule) = Reply.Barren rule
replied call (Answer.Opened number depth) = Reply.Ticket depth
replied call Answer.Kept = Reply.Kept
replied call Answer.Struck = Reply.Struck
replied call (Answer.Refused why) = Reply.Refused (refusals.numbered why)

-- A plain call on a sheet: it does what the public call does, and its answer is what is said; number and tickets stay.
pub record PlainPlayed (call : Plain) (reply : Reply) (p q : Tended) : Type 0 where
  pub answer : Answer
  pub called : Called (meaning_of p) (number_of p) (model_of p) (call_of call) (model_of q) answer
  pub said : reply ≡ replied call answer
  pub number : number_of q ≡ number_of p
  pub hand : hand_of q ≡ hand_of p

-- Something is done to the present sheet alone, or there is none.
pub data OnPresent (Done : Tended → Tended → Type 0) (Absent : Type 0) (before after : List Tended) : Type 0 where
  absent : before ≡ [] → after ≡ [] → Absent → OnPresent Done Absent before after
  present : (others : List Tended) (p q : Tended) → before ≡ others ++ (p ∷ []) → after ≡ others ++ (q ∷ []) → Done p q
      → OnPresent Done Absent before after

-- The window of a line is told as it is, or the line is refused by 2.
abbrev pub WindowTold : Model → ℕ → Result Reply NoEffect → Type 0
WindowTold s k r =
    (no_line (length s.core.windows) k ≡ false → r ≡ Ok (Reply.Window (window s.core.windows k).lo (window s.core.windows k).hi))
    × (no_line (length s.core.windows) k ≡ true → r ≡ Err (NoEffect.Told (Reply.Refused 2)))

-- What its ends mean is told, or the line is refused by 2.
abbrev pub ValueTold : Tended → ℕ → Result Reply NoEffect → Type 0
ValueTold t k r =
    (no_line (length (model_of t).core.windows) k ≡ false →
    r ≡ Ok (Reply.Value (end_of t (window (model_of t).core.windows k).lo) (end_of t (window (model_of t).core.windows k).hi)))
    × (no_line (length (model_of t).core.windows) k ≡ true → r ≡ Err (NoEffect.Told (Reply.Refused 2)))

-- The windows of all lines are told as they are, unless memory ran out.
abbrev pub LinesTold : Model → Result Printed NoEffect → Type 0
LinesTold s (Ok (Printed.Lines windows)) = map span (vec_items windows) ≡ s.core.windows
LinesTold s (Ok _) = ⊥
LinesTold s (Err (NoEffect.Told reply)) = ⊥
LinesTold s (Err (NoEffect.Memory e)) = Unit {0}

-- A sheet that cannot be stored in so many bytes is refused by the fault's number.
abbrev pub StoreTold : Model → ℕ → Result Printed NoEffect → Type 0
StoreTold s room r = (fault : StoreFault) → stores s room ≡ Err fault → r ≡ Err (NoEffect.Told (Reply.Refused (store_number fault)))

-- What comes of a line by its meaning.
abbrev pub Heard : Result (Option Command) Unreadable → Desk → Desk → Result (Option Printed) AllocError → Type 0
Heard (Err why) d e r = (e ≡ d) × (r ≡ Ok (Some (Printed.Short (Reply.Error (Fault.Unreadable why)))))
Heard (Ok None) d e r = (e ≡ d) × (r ≡ Ok None)
Heard (Ok (Some command)) d e r = Unit {0}

-- What is in force after a history, from its calls and answers alone.
--   try        begun by an accepted open; it goes by the number of calls before that open
--   closed     an accepted keep or strike closes the latest accepted open that is not yet closed
--   struck     closed by a strike
--   in force   a line, rule or pinch that was accepted, and no try open at that moment has been struck since
-- A history has its latest entry first. Assumes nothing: nothing here looks at a sheet.
use Rattle.std.specs.Prelude.{ℕ, suc, Bool, true, false, cond, not, ◌&&◌, List, [], ◌∷◌, ◌++◌, length, take, drop, ◌==◌, nat_eq}
use Rattle.windows.specs.Spans.{Span}
use Rattle.law.specs.declared.calls.Rule.{Rule}
use Rattle.law.specs.declared.calls.Call.{Call}
use Rattle.law.specs.Sheets.{between, cut}
use Rattle.law.specs.Table.{some_of}
use Rattle.law.specs.Histories.{Entry, History, accepted}

-- The open tries after an accepted call, latest first: ts were open before it, and n calls had been made.
abbrev pub tried : Call → ℕ → List ℕ → List ℕ
tried (Call.Line lo hi) n ts = ts
tried (Call.Rule r) n ts = ts
tried (Call.Pinch k lo hi) n ts = ts
tried (Call.Settle a) n ts = ts
tried Call.Open n ts = n ∷ ts
tried (Call.Keep number depth) n ts = drop 1 ts
tried (Call.Strike number depth) n ts = drop 1 ts

-- The tries open after a history, latest first.
unfoldable pub tries : History → List ℕ
tries [] = []
tries (e ∷ h) = cond (accepted e.answer) (tried e.call (length h) (tries h)) (tries h)

-- The struck tries after an accepted call: ts were open before it, gone had been struck.
abbrev pub gone_by : Call → List ℕ → List ℕ → List ℕ
gone_by (Call.Line lo hi) ts gone = gone
gone_by (Call.Rule r) ts gone = gone
gone_by (Call.Pinch k lo hi) ts gone = gone
gone_by (Call.Settle a) ts gone = gone
gone_by Call.Open ts gone = gone
gone_by (Call.Keep number depth) ts gone = gone
gone_by (Call.Strike number depth) ts gone = take 1 ts ++ gone

-- The tries that have been struck in a history.
unfoldable pub struck : History → List ℕ
struck [] = []
struck (e ∷ h) = cond (accepted e.answer) (gone_by e.call (tries h) (struck h)) (struck h)

-- A line, a rule or a pinch.
abbrev pub changes : Call → Bool
changes (Call.Line lo hi) = true
changes (Call.Rule r) = true
changes (Call.Pinch k lo hi) = true
changes (Call.Settle a) = false
changes Call.Open = false
changes (Call.Keep number depth) = false
changes (Call.Strike number depth) = false

-- The try t is among ts.
abbrev pub has : ℕ → List ℕ → Bool
has t ts = some_of (nat_eq t) ts

-- One of the tries ts is among the tries gone.
abbrev pub meet : List ℕ → List ℕ → Bool
meet ts gone = some_of (λ t. has t gone) ts

-- The entry e, made after the entries g, is a line, rule or pinch that was accepted, and none of the tries open then is among gone.
abbrev pub lasts : List ℕ → Entry → History → Bool
lasts gone e g = accepted e.answer && (changes e.call && not (meet (tries g) gone))

-- The calls of a history that last, where the tries gone have been struck; latest first.
unfoldable pub lasting : List ℕ → History → List Call
lasting gone [] = []
lasting gone (e ∷ g) = cond (lasts gone e g) (e.call ∷ lasting gone g) (lasting gone g)

-- The lines, rules and pinches in force, latest first. (A try open at some moment and struck in the history was struck since that moment.)
abbrev pub InForce : History → List Call
InForce h = lasting (struck h) h

-- The rules among the calls, in order of arrival.
unfoldable pub rules_in : List Call → List Rule
rules_in [] = []
rules_in (Call.Line lo hi ∷ cs) = rules_in cs
rules_in (Call.Rule r ∷ cs) = rules_in cs ++ (r ∷ [])
rules_in (Call.Pinch k lo hi ∷ cs) = rules_in cs
rules_in (Call.Settle a ∷ cs) = rules_in cs
rules_in (Call.Open ∷ cs) = rules_in cs
rules_in (Call.Keep number depth ∷ cs) = rules_in cs
rules_in (Call.Strike number depth ∷ cs) = rules_in cs

-- The declared windows of the lines among the calls, in order of arrival.
unfoldable pub lines_in : List Call → List Span
lines_in [] = []
lines_in (Call.Line lo hi ∷ cs) = lines_in cs ++ (between lo hi ∷ [])
lines_in (Call.Rule r ∷ cs) = lines_in cs
lines_in (Call.Pinch k lo hi ∷ cs) = lines_in cs
lines_in (Call.Settle a ∷ cs) = lines_in cs
lines_in (Call.Open ∷ cs) = lines_in cs
lines_in (Call.Keep number depth ∷ cs) = lines_in cs
lines_in (Call.Strike number depth ∷ cs) = lines_in cs

-- The window w of line k cut by all pinches of that line among the calls.
unfoldable pub cut_by : List Call → ℕ → Span → Span
cut_by [] k w = w
cut_by (Call.Line lo hi ∷ cs) k w = cut_by cs k w
cut_by (Call.Rule r ∷ cs) k w = cut_by cs k w
cut_by (Call.Pinch j lo hi ∷ cs) k w = cond (j == k) (cut (cut_by cs k w) lo hi) (cut_by cs k w)
cut_by (Call.Settle a ∷ cs) k w = cut_by cs k w
cut_by (Call.Open ∷ cs) k w = cut_by cs k w
cut_by (Call.Keep number depth ∷ cs) k w = cut_by cs k w
cut_by (Call.Strike number depth ∷ cs) k w = cut_by cs k w

-- Each of the windows, of lines numbered from k on, cut by its pinches.
unfoldable pub all_cut_by : List Call → ℕ → List Span → List Span
all_cut_by cs k [] = []
all_cut_by cs k (w ∷ ws) = cut_by cs k w ∷ all_cut_by cs (suc k) ws

-- The windows in force: each line's declared window cut by all its pinches.
unfoldable pub windows_in : List Call → List Span
windows_in cs = all_cut_by cs 1 (lines_in cs)

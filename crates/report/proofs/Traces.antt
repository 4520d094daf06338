-- What a load and the settle after it come to.
use Rattle.std.proofs.Common.{◌≡◌, ℕ, zero, suc, ◌<◌, ◌≤◌, Bool, true, cond, ◌&&◌, eqb, leb, List, [], ◌∷◌, length, take, Some, None, Ok, Err, Option, Result, sym, refl, ap, ◌∙◌, subst, arith}
use Rattle.std.proofs.lemmas.Bool.{and_from, le-leb}
use Rattle.std.specs.List.{list_all}
use Rattle.windows.specs.Meanings.{Meaning}
use Rattle.windows.specs.Spans.{Span, Every}
use Rattle.windows.proofs.Spans.{within_refl, every_map}
use Rattle.law.specs.declared.calls.Answer.{Answer}
use Rattle.law.specs.declared.calls.Call.{Call}
use Rattle.law.specs.declared.calls.Refusal.{Refusal}
use Rattle.law.specs.declared.calls.State.{State}
use Rattle.law.specs.Law.{Called}
use Rattle.law.specs.Runs.{Ending, standing, spent, barren, EndsWith}
use Rattle.law.specs.Sheets.{Core, Model}
use Rattle.law.specs.Sound.{Fits, FitRule, Sound, SoundCore}
use Rattle.law.specs.Steps.{Settles, Steps, refused, does, settled, told}
use Rattle.law.specs.Table.{checks, verdict, is_barren}
use Rattle.law.proofs.Runs.{NamesOne, run_within, run_ordered, keeps, ends_standing}
use Rattle.law.proofs.Sheets.{all_sound}
use Rattle.law.proofs.Soundness.{sound_ordered}
use Rattle.runs.specs.declared.settled.Settled.{Settled}
use Rattle.runs.specs.Rounds.{answered, left_by}
use Rattle.stored.specs.declared.fault.LoadFault.{LoadFault}
use Rattle.stored.specs.declared.fault.LoadFault.TheVariants.{Chain, Length, Head}
use Rattle.stored.specs.declared.item.Item.{Item}
use Rattle.stored.specs.Loads.{Progress, bad_length, chain, judged, loads, on, on_read, start, step, walk}
use Rattle.stored.specs.Loads as stored-loads
use Rattle.stored.specs.Records.{byte, is_head, read, record_at, records}
use Rattle.report.specs.declared.refused.RefusedAt.{RefusedAt}
use Rattle.report.specs.Picks.{Picks}
use Rattle.report.specs.Refused.{Outcome, of_fault, refused_at}
use Rattle.report.specs.Concluding.{Concluded}
use Rattle.report.specs.Report.{after_report, printable, report_answer}
use Rattle.report.specs.Traces.{GreatestWithin, NoneWithin, SettlesTo, allowance}
use Rattle.report.specs.Traces.{Reported, TraceIn, TraceOf, by_none, refused as faulted, reported, settles, too_small, traced, written}

-- A load leaves its sheet unsettled.
abbrev pub Unsettled : Progress → Type 0
Unsettled p = p.sheet.core.state ≡ State.Unsettled

on_unsettled :
    (p : Progress) (i : Item) (v : Option Refusal) (at : ℕ) (go : Progress → Result Progress LoadFault) (q : Progress) →
    ((t : Progress) → Unsettled t → go t ≡ Ok q → Unsettled q) → on at go (judged p i v) ≡ Ok q → Unsettled q
on_unsettled p i v at go q next e = grind arith

turn_unsettled :
    (m : Meaning) (id : ℕ) (p : Progress) (z y : Bool) (at : ℕ) (o : Option Item) (go : Progress → Result Progress LoadFault) (q : Progress) →
    Unsettled p → ((t : Progress) → Unsettled t → go t ≡ Ok q → Unsettled q) →
    cond z (Ok p) (cond y (Err (Chain at)) (on_read at (step m id p) go o)) ≡ Ok q → Unsettled q
turn_unsettled m id p z y at o go q u next e = grind (arith, on_unsettled)

end_unsettled : (p : Progress) (z : Bool) (at : ℕ) (q : Progress) → Unsettled p → cond z (Ok p) (Err (Chain at)) ≡ Ok q → Unsettled q
end_unsettled p z at q u e = grind arith

walk_unsettled : (m : Meaning) (id : ℕ) (bytes : List ℕ) (left at : ℕ) (p q : Progress) → Unsettled p → walk (step m id) bytes left at p ≡ Ok q → Unsettled q
unfolding walk
walk_unsettled m id bytes zero at p q u e = end_unsettled p (eqb at 0) at q u e
walk_unsettled m id bytes (suc left) at p q u e =
    turn_unsettled m id p (eqb at 0) (leb (records bytes) at) at (read (record_at bytes at)) (λ t. walk (step m id) bytes left (byte (record_at bytes at) 1) t) q u
    (λ t v f. walk_unsettled m id bytes left (byte (record_at bytes at) 1) t q v f) e

load_unsettled :
    (b h : Bool) (r : Result Progress LoadFault) (q : Progress) → (r ≡ Ok q → Unsettled q) →
    cond b (Err Length) (cond h r (Err Head)) ≡ Ok q → Unsettled q
load_unsettled b h r q next e = grind arith

pub loads_unsettled : (m : Meaning) (id drive mode : ℕ) (bytes : List ℕ) (q : Progress) → loads m id drive mode bytes ≡ Ok q → Unsettled q
unfolding loads
loads_unsettled m id drive mode bytes q e =
    load_unsettled (bad_length (length bytes)) (is_head drive mode (record_at bytes 0)) (chain m id bytes) q
    (walk_unsettled m id bytes _ _ start q refl) e

-- A sound sheet's windows can be printed.
fits_up_to : (m : Meaning) (ws : List Span) → m.top ≤ 65535 → Every (Fits m) ws → list_all (λ w. leb w.hi 65535) ws ≡ true
fits_up_to m [] small fits = refl
fits_up_to m (w ∷ ws) small fits =
    and_from (leb w.hi 65535) (list_all (λ w. leb w.hi 65535) ws) (le-leb w.hi 65535 (omega (arith, fits.0.up_to_top))) (fits_up_to m ws small fits.1)

pub sound_printable : (m : Meaning) (c : Core) → m.top ≤ 65535 → SoundCore m c → printable c.windows ≡ true
sound_printable m c small sound =
    and_from (leb (length c.windows) 64) (list_all (λ w. leb w.hi 65535) c.windows) (le-leb (length c.windows) 64 sound.few_lines)
    (fits_up_to m c.windows small sound.windows_fit)

pub none_printable : (ws : List Span) → ws ≡ [] → printable ws ≡ true
none_printable ws e = ap printable e

-- Each rule names a line.
takes_one : (n x : ℕ) (xs : List ℕ) → 1 ≤ n → 0 < length (take n (x ∷ xs))
takes_one n x xs le = grind arith

all_name_one : (m : Meaning) (c : Core) → SoundCore m c → Every (NamesOne m) c.rules
all_name_one m c sound =
    every_map (FitRule m (length c.windows)) (NamesOne m)
    (λ r f. takes_one (m.arity r.kind) r.a (r.b ∷ r.c ∷ []) f.kind_there) c.rules sound.rules_fit

-- Where the run of settle ends standing, its windows are the greatest box that stands within those that it began with.
stands_greatest :
    (m : Meaning) (c : Core) (e : Ending) (answer : Settled) (k : ℕ) → SoundCore m c → EndsWith m c.rules allowance c.windows e →
    answered answer ≡ told allowance e → answer ≡ Settled.Standing k → GreatestWithin m c.rules c.windows (left_by c.windows e)
stands_greatest m c (standing count vs) answer k sound run says is =
    record {
      stands = record {
        ordered = run_ordered run (sound_ordered m c sound);
        within = run_within c.windows run (within_refl c.windows);
        stands = ends_standing run;
      };
      greatest = λ us s. keeps us s.stands (all_name_one m c sound) run s.within;
    }
stands_greatest m c (spent vs) answer k sound run says is = let x : Answer.Standing k ≡ Answer.Spent allowance = sym (ap answered is) ∙ says in cc
stands_greatest m c (barren r) answer k sound run says is = let x : Answer.Standing k ≡ Answer.Barren r = sym (ap answered is) ∙ says in cc

-- Where it ends barren, none stands.
barren_none :
    (m : Meaning) (c : Core) (e : Ending) (answer : Settled) (k : ℕ) → SoundCore m c → EndsWith m c.rules allowance c.windows e →
    answered answer ≡ told allowance e → answer ≡ Settled.Barren k → NoneWithin m c.rules c.windows
barren_none m c (barren r) answer k sound run says is us s = keeps us s.stands (all_name_one m c sound) run s.within
barren_none m c (standing count vs) answer k sound run says is us s = let x : Answer.Barren k ≡ Answer.Standing count = sym (ap answered is) ∙ says in cc
barren_none m c (spent vs) answer k sound run says is us s = let x : Answer.Barren k ≡ Answer.Spent allowance = sym (ap answered is) ∙ says in cc

left_windows : (c : Core) (e : Ending) → (settled c e).windows ≡ left_by c.windows e
left_windows c e = grind arith

-- What an accepted settle comes to.
settle_comes :
    (m : Meaning) (s t : Model) (answer : Settled) → SoundCore m s.core → Settles m s allowance t (answered answer) →
    SettlesTo m s.core.rules s.core.windows t.core.windows answer
settle_comes m s t answer sound ran =
    let leaves : t.core.windows ≡ left_by s.core.windows ran.ending =
    ap (λ (u : Model). u.core.windows) ran.leaves ∙ left_windows s.core ran.ending in
    record {
      finished = record { ending = ran.ending; ends = ran.run; leaves = leaves; says = ran.says };
      standing = λ k is. subst (GreatestWithin m s.core.rules s.core.windows) (sym leaves) (stands_greatest m s.core ran.ending answer k sound ran.run ran.says is);
      barren = λ k is. barren_none m s.core ran.ending answer k sound ran.run ran.says is;
    }

steps_settle :
    (m : Meaning) (id : ℕ) (s t : Model) (answer : Settled) → SoundCore m s.core → verdict m id s (Call.Settle allowance) ≡ None →
    Steps m id s (Call.Settle allowance) t (answered answer) → SettlesTo m s.core.rules s.core.windows t.core.windows answer
steps_settle m id s t answer sound taken (refused why v same e) = cc
steps_settle m id s t answer sound taken (does v ran) = settle_comes m s t answer sound ran

-- An unsettled sheet's settle is not refused.
unsettled_taken : (m : Meaning) (id : ℕ) (s : Model) (n : ℕ) → s.core.state ≡ State.Unsettled → verdict m id s (Call.Settle n) ≡ None
unfolding checks verdict
unsettled_taken m id s n e = ap (λ (b : Bool). cond b (Some Refusal.IsBarren) None) (ap is_barren e)

-- A refused load, concluded.
pub conclude_fault :
    (m : Meaning) (id : ℕ) (s : Model) (fault : Option LoadFault) (f : LoadFault) (r : Result Progress LoadFault) (o : Outcome) →
    fault ≡ Some f → o ≡ Err (of_fault f) → stored-loads.Outcome m id s fault r → Concluded m r o s.core.windows
conclude_fault m id s fault f (Ok p) o is_some is loaded =
    let none : fault ≡ None = loaded.0 in cc
conclude_fault m id s fault f (Err f') o is_some is loaded =
    let some : fault ≡ Some f' = loaded.0 in
    let same : f' ≡ f = cc in
    record {
      comes = faulted f (ap Err same) is;
      prints = none_printable s.core.windows (ap (λ (u : Model). u.core.windows) loaded.1);
    }

-- A settled load, concluded.
pub conclude_settled :
    (m : Meaning) (id : ℕ) (s t : Model) (fault : Option LoadFault) (answer : Settled) (r : Result Progress LoadFault) (o : Outcome) →
    m.top ≤ 65535 → fault ≡ None → o ≡ Ok answer → None ≡ verdict m id s (Call.Settle allowance) →
    Called m id s (Call.Settle allowance) t (answered answer) → stored-loads.Outcome m id s fault r → Concluded m r o t.core.windows
conclude_settled m id s t fault answer (Ok p) o small is_none is taken called loaded =
    let sound : Sound m s = all_sound loaded.2 in
    let after : Sound m t = called.sound sound in
    let comes : SettlesTo m s.core.rules s.core.windows t.core.windows answer =
    steps_settle m id s t answer sound.core_sound (sym taken) (called.step sound) in
    record {
      comes = settles p answer refl is (subst (λ (u : Model). SettlesTo m u.core.rules u.core.windows t.core.windows answer) loaded.1 comes);
      prints = sound_printable m t.core small after.core_sound;
    }
conclude_settled m id s t fault answer (Err f) o small is_none is taken called loaded = let some : fault ≡ Some f = loaded.0 in cc

-- The settle of a loaded sheet is never refused.
pub conclude_never :
    {X : Type 0} (m : Meaning) (id : ℕ) (s : Model) (fault : Option LoadFault) (why : Refusal) (r : Result Progress LoadFault) →
    ((p : Progress) → r ≡ Ok p → Unsettled p) → fault ≡ None → Some why ≡ verdict m id s (Call.Settle allowance) →
    stored-loads.Outcome m id s fault r → X
conclude_never m id s fault why (Ok p) unsettled is_none turned loaded =
    let taken = unsettled_taken m id s allowance (ap (λ (u : Model). u.core.state) loaded.1 ∙ unsettled p refl) in cc
conclude_never m id s fault why (Err f) unsettled is_none turned loaded = let some : fault ≡ Some f = loaded.0 in cc

-- A report that was written, of windows that can be printed.
pub reported_as :
    {Is : Outcome → List Span → Type 0} (o : Outcome) (ws vs : List Span) (old new : List ℕ) (r : ℕ) →
    ws ≡ vs → Is o vs → printable vs ≡ true → 1024 ≤ length old →
    new ≡ after_report o ws old → r ≡ report_answer o ws old → r ≤ 1024 → Reported Is old new r
reported_as {Is} o ws vs old new r same comes prints room bytes count short =
    let ready : leb 1024 (length old) && printable ws ≡ true = and_from _ _ (le-leb 1024 (length old) room) (ap printable same ∙ prints) in
    record { outcome = o; windows = ws; comes = rw same comes; bytes = rw ready at bytes; count = rw ready at count; short = short }

-- A trace by a book, as the trace of its input.
pub reported_more :
    {Is Are : Outcome → List Span → Type 0} {old new : List ℕ} {r : ℕ} → ((o : Outcome) (vs : List Span) → Is o vs → Are o vs) → Reported Is old new r → Reported Are old new r
reported_more more x =
    record { outcome = x.outcome; windows = x.windows; comes = more x.outcome x.windows x.comes; bytes = x.bytes; count = x.count; short = x.short }

-- A trace in room that was there, as a trace that may have wanted memory.
pub trace_of : {input old new : List ℕ} {r : ℕ} → TraceIn input old new r → TraceOf input old new r
trace_of x = grind (arith, too_small, traced, reported)

-- Where no book fits, the refusal is 10 for a length that no stored sheet has, else 11.
none_fits : (b : Bool) → of_fault (cond b Length Head) ≡ refused_at (cond b 10 11) 0
none_fits b = grind arith

-- A trace where no book fits.
pub none_written :
    {input old new : List ℕ} {r : ℕ} (fault : LoadFault) (o : RefusedAt) → 1024 ≤ length old → Picks input (Err fault) → o ≡ of_fault fault →
    new ≡ after_report (Err o) [] old → r ≡ report_answer (Err o) [] old → r ≤ 1024 → TraceIn input old new r
none_written {input} {old} {new} {r} fault o room none same bytes count short =
    let is : ◌≡◌ {A = Outcome} (Err o) (Err (refused_at (cond (bad_length (length input)) 10 11) 0)) =
    ap Err (same ∙ ap of_fault none.2 ∙ none_fits (bad_length (length input))) in
    written room (reported_as (Err o) [] [] old new r refl (by_none none.0 none.1 is) (none_printable [] refl) room bytes count short)

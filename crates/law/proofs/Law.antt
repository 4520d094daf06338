-- The law of the sheet, from what every sheet reached keeps.
-- Assumes nothing.
use Rattle.std.proofs.Common.{◌≡◌, ℕ, zero, suc, ◌+◌, ◌-◌, Bool, true, false, List, [], ◌∷◌, ◌++◌, length, drop, sym, refl, ap, subst, arith, length-append}
use Rattle.std.proofs.lemmas.Bool.{both_ways}
use Rattle.windows.specs.Meanings.{Meaning}
use Rattle.windows.specs.Spans.{Every}
use Rattle.law.specs.declared.calls.State.{State}
use Rattle.law.specs.declared.calls.Rule.{Rule}
use Rattle.law.specs.declared.calls.Call.{Call}
use Rattle.law.specs.declared.calls.Answer.{Answer}
use Rattle.law.specs.Sheets.{Core, Model, empty}
use Rattle.law.specs.Runs.{Ending, standing, spent, barren}
use Rattle.law.specs.Histories.{Entry, History, entry, accepted, earliest, followed, history}
use Rattle.law.specs.Steps.{settled, with_core, told, Does, Steps, refused, does, Reached, set_up, called}
use Rattle.law.specs.Force.{tries, InForce}
use Rattle.law.specs.Boxes.{Held, Greatest}
use Rattle.law.specs.Sound.{SoundCore, Sound}
use Rattle.law.specs.Law.{Along, BroughtBack, Lawful, Called, Played}
use Rattle.law.proofs.Verdicts.{strike_taken}
use Rattle.law.proofs.Soundness.{sound_ordered, sound_steps}
use Rattle.law.proofs.Cores.{Fitting}
use Rattle.law.proofs.Sheets.{stack_length, stack_latest, all_sound, all_told}

-- The sheet before the last call, and what that call did.
record Last (m : Meaning) (id : ℕ) (g : History) (call : Call) (answer : Answer) (t : Model) : Type 0 where
  before : Model
  reached : Reached m id g before
  step : Steps m id before call t answer

-- The empty history has no last entry.
no_entry : {X : Type 0} (e : Entry) (g : History) → [] ≡ e ∷ g → X
no_entry e g p = let z : ◌≡◌ {A = ℕ} 0 1 = cc in let w : ⊥ = omega arith in elim w [ ]

-- Equal histories have the same last entry.
same_entry : (e e' : Entry) (h g : History) → e ∷ h ≡ e' ∷ g → e ≡ e'
same_entry e e' h g p = cc

-- And the same entries before it.
same_history : (e e' : Entry) (h g : History) → e ∷ h ≡ e' ∷ g → h ≡ g
same_history e e' h g p = cc

-- A history that ends with an entry was reached by that entry's call.
last :
    {m : Meaning} {id : ℕ} {h : History} {t : Model} → Reached m id h t → (call : Call) (answer : Answer) (g : History) →
    h ≡ entry call answer ∷ g → Last m id g call answer t
last set_up call answer g q = no_entry (entry call answer) g q
last {m} {id} (called {h = h} {s = s} {t = t} {e = e} r p) call answer g q =
    record {
      before = s;
      reached = subst (λ (x : History). Reached m id x s) (same_history e (entry call answer) h g q) r;
      step = subst (λ (x : Entry). Steps m id s x.call t x.answer) (same_entry e (entry call answer) h g q) p;
    }

-- An accepted call was not refused.
accepted_does :
    (m : Meaning) (id : ℕ) (s : Model) (call : Call) (t : Model) (answer : Answer) →
    accepted answer ≡ true → Steps m id s call t answer → Does m id s call t answer
accepted_does m id s call t answer a (refused why v q b) = absurd (both_ways (accepted answer) (ap accepted b) a)
accepted_does m id s call t answer a (does v d) = d

-- An accepted strike brought back what the open that it closes found.
strike_back :
    (m : Meaning) (id : ℕ) (g : History) (s t : Model) (number depth : ℕ) (answer : Answer) → accepted answer ≡ true → Reached m id g s →
    Steps m id s (Call.Strike number depth) t answer → BroughtBack m id g t.core
strike_back m id g s t number depth answer a r (refused why v q b) = absurd (both_ways (accepted answer) (ap accepted b) a)
strike_back m id g s t number depth answer a r (does v d) =
    subst (λ (x : Model). BroughtBack m id g x.core) (sym d.0)
    (stack_latest m id g (tries g) s.saved s.core refl (all_told r).stack (strike_taken m id s number depth v))

-- The answer is barren.
abbrev says_barren : Answer → Bool
says_barren (Answer.Numbered k) = false
says_barren Answer.Pinched = false
says_barren (Answer.Standing c) = false
says_barren (Answer.Spent n) = false
says_barren (Answer.Barren k) = true
says_barren (Answer.Opened number depth) = false
says_barren Answer.Kept = false
says_barren Answer.Struck = false
says_barren (Answer.Refused why) = false

-- Another answer is not barren.
not_barren : {X : Type 0} (k : ℕ) (b : Answer) → says_barren b ≡ false → Answer.Barren k ≡ b → X
not_barren k b p q = absurd (both_ways (says_barren b) p (ap says_barren (sym q)))

-- A settle that answers barren ended so, and leaves the sheet barren.
settle_barren :
    (s t : Model) (n k : ℕ) (e : Ending) → t ≡ with_core s (settled s.core e) →
    Answer.Barren k ≡ told n e → t.core.state ≡ State.Barren
settle_barren s t n k (standing c ws) p q = not_barren k (Answer.Standing c) refl q
settle_barren s t n k (spent ws) p q = not_barren k (Answer.Spent n) refl q
settle_barren s t n k (barren j) p q = ap (λ x. x.core.state) p

-- No other call answers barren.
does_barren :
    (m : Meaning) (id : ℕ) (s : Model) (call : Call) (t : Model) (k : ℕ) → Does m id s call t (Answer.Barren k) →
    t.core.state ≡ State.Barren
does_barren m id s (Call.Line lo hi) t k d = not_barren k (Answer.Numbered (length s.core.windows + 1)) refl d.1
does_barren m id s (Call.Rule r) t k d = not_barren k (Answer.Numbered (length s.core.rules + 1)) refl d.1
does_barren m id s (Call.Pinch j lo hi) t k d = not_barren k Answer.Pinched refl d.1
does_barren m id s (Call.Settle n) t k d = settle_barren s t n k d.ending d.leaves d.says
does_barren m id s Call.Open t k d = not_barren k (Answer.Opened id (length s.saved + 1)) refl d.1
does_barren m id s (Call.Keep number depth) t k d = not_barren k Answer.Kept refl d.1
does_barren m id s (Call.Strike number depth) t k d = not_barren k Answer.Struck refl d.1

-- A sound core that is standing and fits is the greatest standing box.
fitting_greatest :
    (m : Meaning) (cs : List Call) (c : Core) → SoundCore m c → Fitting m cs c → c.state ≡ State.Standing → Greatest m cs c.windows
fitting_greatest m cs c sound f p =
    record {
      stands = record {
        ordered = sound_ordered m c sound;
        within = f.within;
        stands = subst (λ (rs : List Rule). Every (Held m c.windows) rs) f.same_rules (f.standing_held p);
      };
      greatest = f.greatest;
    }

-- The law.
pub lawful : (m : Meaning) → Lawful m
lawful m id h s r =
    let p = all_told r in
    let f = p.core_fits in
    record {
      standing = fitting_greatest m (InForce h) s.core (all_sound r).core_sound f;
      barren = f.barren_none;
      none_stands = λ call k g q.
          let l = last r call (Answer.Barren k) g q in
          f.barren_none (does_barren m id l.before call s k (accepted_does m id l.before call s (Answer.Barren k) refl l.step));
      as_run = λ n answer g q a.
          let l = last r (Call.Settle n) answer g q in
          record {
            before = l.before;
            reached = l.reached;
            ran = accepted_does m id l.before (Call.Settle n) s answer a l.step;
          };
      brought_back = λ number depth answer g q a.
          let l = last r (Call.Strike number depth) answer g q in
          strike_back m id g l.before s number depth answer a l.reached l.step;
      keeps = f.greatest;
      within = f.within;
      same_rules = f.same_rules;
      same_tries = stack_length m id h (tries h) s.saved p.stack;
      sound = all_sound r;
    }

-- What a call does to a sound sheet is all that a public call needs to show: the rest follows.
pub call_lawful :
    (m : Meaning) (id : ℕ) (s : Model) (call : Call) (t : Model) (answer : Answer) →
    (Sound m s → Steps m id s call t answer) → Called m id s call t answer
call_lawful m id s call t answer p =
    record {
      step = p;
      sound = λ f. sound_steps m id s call t answer f (p f);
      reached = λ h r. called {e = entry call answer} r (p (all_sound r));
      law = λ h r. lawful m id (entry call answer ∷ h) t (called {e = entry call answer} r (p (all_sound r)));
    }

-- One more call and answer at the end of the lists is one more entry, the latest.
followed_more :
    (h : History) (calls : List Call) (answers : List Answer) (call : Call) (answer : Answer) → length answers ≡ length calls →
    followed h (calls ++ (call ∷ [])) (answers ++ (answer ∷ [])) ≡ entry call answer ∷ followed h calls answers
followed_more h [] [] call answer p = refl
followed_more h [] (a ∷ answers) call answer p = let z : ⊥ = omega arith in elim z [ ]
followed_more h (c ∷ calls) [] call answer p = let z : ⊥ = omega arith in elim z [ ]
followed_more h (c ∷ calls) (a ∷ answers) call answer p =
    let q : length answers ≡ length calls = omega arith in
    followed_more (entry c a ∷ h) calls answers call answer q

-- The same of a history from its start.
pub history_more :
    (calls : List Call) (answers : List Answer) (call : Call) (answer : Answer) → length answers ≡ length calls →
    history (calls ++ (call ∷ [])) (answers ++ (answer ∷ [])) ≡ entry call answer ∷ history calls answers
unfolding history
history_more calls answers call answer p = followed_more [] calls answers call answer p

-- What a history leads to, some entries earlier.
earlier : {m : Meaning} {id : ℕ} {h : History} {s : Model} → Reached m id h s → (k : ℕ) → (t : Model) × Reached m id (drop k h) t
earlier {s = s} r zero = (s, r)
earlier set_up (suc k) = (empty, set_up)
earlier (called r p) (suc k) = earlier r k

-- The law holds on the way.
pub law_along : (m : Meaning) (id : ℕ) (h : History) (s : Model) → Reached m id h s → (k : ℕ) → Along m id (earliest k h)
law_along m id h s r k =
    let x = earlier r (length h - k) in
    record { sheet = x.0; reached = x.1; law = lawful m id (earliest k h) x.0 x.1 }

-- No call at all leads to the sheet just set up.
pub played_none : (m : Meaning) (id : ℕ) → Played m id [] [] empty
unfolding history
played_none m id = record { answered = refl; reached = set_up; law = lawful m id [] empty set_up; along = law_along m id [] empty set_up }

-- One more call.
pub played_more :
    (m : Meaning) (id : ℕ) (calls : List Call) (answers : List Answer) (s t : Model) (call : Call) (answer : Answer) →
    Played m id calls answers s → Called m id s call t answer → Played m id (calls ++ (call ∷ [])) (answers ++ (answer ∷ [])) t
played_more m id calls answers s t call answer p q =
    let e : history (calls ++ (call ∷ [])) (answers ++ (answer ∷ [])) ≡ entry call answer ∷ history calls answers =
    history_more calls answers call answer p.answered in
    let r : Reached m id (history (calls ++ (call ∷ [])) (answers ++ (answer ∷ []))) t =
    subst (λ (h : History). Reached m id h t) (sym e) (q.reached (history calls answers) p.reached) in
    let n : length answers ≡ length calls = p.answered in
    record {
      answered = simp length-append (omega arith);
      reached = r;
      law = lawful m id (history (calls ++ (call ∷ [])) (answers ++ (answer ∷ []))) t r;
      along = law_along m id (history (calls ++ (call ∷ [])) (answers ++ (answer ∷ []))) t r;
    }

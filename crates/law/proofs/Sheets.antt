-- A sheet, held against the history that led to it: its core fits what is in force, and each saved core is what its try's open found.
-- Assumes what each lemma states.
use Rattle.std.proofs.Common.{◌≡◌, ℕ, suc, ◌<◌, ◌≤◌, true, false, List, [], ◌∷◌, length, get_or, drop, None, sym, refl, ap, ◌∙◌, subst, arith}
use Rattle.windows.specs.Meanings.{Meaning}
use Rattle.windows.specs.Spans.{Every}
use Rattle.law.specs.declared.calls.Call.{Call}
use Rattle.law.specs.declared.calls.Answer.{Answer}
use Rattle.law.specs.Sheets.{Core, Model, empty}
use Rattle.law.specs.Table.{verdict}
use Rattle.law.specs.Histories.{Entry, History, entry, accepted, earliest}
use Rattle.law.specs.Steps.{lined, ruled, pinched, settled, with_core, told, Settles, Does, Steps, refused, does, Reached, set_up, called}
use Rattle.law.specs.Runs.{Ending, standing, spent, barren}
use Rattle.law.specs.Force.{tried, tries, gone_by, struck, changes, lasting, InForce}
use Rattle.law.specs.Sound.{Sound}
use Rattle.law.specs.Law.{BroughtBack}
use Rattle.law.proofs.Tries.{facts, earliest_on, earliest_all}
use Rattle.law.proofs.Force.{tries_refused, tries_accepted, force_refused, force_same, force_more, force_struck}
use Rattle.law.proofs.Verdicts.{pinch_taken, strike_taken}
use Rattle.law.proofs.Soundness.{sound_empty, sound_steps}
use Rattle.law.proofs.Cores.{Fitting, fitting_empty, fitting_line, fitting_rule, fitting_pinch, fitting_settle}

-- The core c is that of a sheet reached by g, and fits what was in force then.
pub record Found (m : Meaning) (id : ℕ) (g : History) (c : Core) : Type 0 where
  pub found : Model
  pub reached : Reached m id g found
  pub same : c ≡ found.core
  pub fitting : Fitting m (InForce g) c

-- There is one saved core for each open try, and it is what the try's open found.
abbrev pub Stack : Meaning → ℕ → History → List ℕ → List Core → Type 0
Stack m id h [] [] = Unit {0}
Stack m id h [] (c ∷ cs) = ⊥
Stack m id h (t ∷ ts) [] = ⊥
Stack m id h (t ∷ ts) (c ∷ cs) = Found m id (earliest t h) c × Stack m id h ts cs

-- One more call leaves what the open tries found.
stack_on :
    (m : Meaning) (id : ℕ) (e : Entry) (h : History) (ts : List ℕ) (cs : List Core) →
    Every (λ t. t < length h) ts → Stack m id h ts cs → Stack m id (e ∷ h) ts cs
stack_on m id e h [] [] l p = tt
stack_on m id e h [] (c ∷ cs) l p = elim p [ ]
stack_on m id e h (t ∷ ts) [] l p = elim p [ ]
stack_on m id e h (t ∷ ts) (c ∷ cs) l p =
    let k : t < length h = l.0 in
    let j : t ≤ length h = omega arith in
    (subst (λ (g : History). Found m id g c) (sym (earliest_on t e h j)) p.0, stack_on m id e h ts cs l.1 p.1)

-- The latest try is closed.
stack_drop : (m : Meaning) (id : ℕ) (h : History) (ts : List ℕ) (cs : List Core) → Stack m id h ts cs → Stack m id h (drop 1 ts) (drop 1 cs)
stack_drop m id h [] [] p = tt
stack_drop m id h [] (c ∷ cs) p = elim p [ ]
stack_drop m id h (t ∷ ts) [] p = elim p [ ]
stack_drop m id h (t ∷ ts) (c ∷ cs) p = p.1

-- There are as many saved cores as open tries.
pub stack_length : (m : Meaning) (id : ℕ) (h : History) (ts : List ℕ) (cs : List Core) → Stack m id h ts cs → length cs ≡ length ts
stack_length m id h [] [] p = refl
stack_length m id h [] (c ∷ cs) p = elim p [ ]
stack_length m id h (t ∷ ts) [] p = elim p [ ]
stack_length m id h (t ∷ ts) (c ∷ cs) p = ap suc (stack_length m id h ts cs p.1)

-- The innermost saved core is what the latest open try found.
pub stack_latest :
    (m : Meaning) (id : ℕ) (h : History) (ts : List ℕ) (cs : List Core) (d : Core) → tries h ≡ ts → Stack m id h ts cs → 0 < length cs →
    BroughtBack m id h (get_or cs 0 d)
stack_latest m id h [] [] d q p l = let z : ⊥ = omega arith in elim z [ ]
stack_latest m id h [] (c ∷ cs) d q p l = elim p [ ]
stack_latest m id h (t ∷ ts) [] d q p l = elim p [ ]
stack_latest m id h (t ∷ ts) (c ∷ cs) d q p l =
    record { latest = t; others = ts; closes = q; found = p.0.found; reached = p.0.reached; same = p.0.same }

-- A strike brings back a core that fits what is in force after it.
struck_fits :
    (m : Meaning) (id number depth : ℕ) (answer : Answer) (h : History) (ts : List ℕ) (cs : List Core) (d : Core) →
    accepted answer ≡ true → tries h ≡ ts → Stack m id h ts cs → 0 < length cs →
    Fitting m (InForce (entry (Call.Strike number depth) answer ∷ h)) (get_or cs 0 d)
struck_fits m id number depth answer h [] [] d a q p l = let z : ⊥ = omega arith in elim z [ ]
struck_fits m id number depth answer h [] (c ∷ cs) d a q p l = elim p [ ]
struck_fits m id number depth answer h (t ∷ ts) [] d a q p l = elim p [ ]
struck_fits m id number depth answer h (t ∷ ts) (c ∷ cs) d a q p l =
    subst (λ (xs : List Call). Fitting m xs c)
    (sym (force_struck (entry (Call.Strike number depth) answer) h t ts a refl (λ gone. refl) q))
    p.0.fitting

-- Every sheet reached is sound.
pub all_sound : {m : Meaning} {id : ℕ} {h : History} {s : Model} → Reached m id h s → Sound m s
all_sound {m} {id} set_up = sound_empty m
all_sound {m} {id} (called {h = h} {s = s} {t = t} {e = e} r p) = sound_steps m id s e.call t e.answer (all_sound r) p

-- The sheet s is as the history h has it.
pub record AsTold (m : Meaning) (id : ℕ) (h : History) (s : Model) : Type 0 where
  pub core_fits : Fitting m (InForce h) s.core
  pub stack : Stack m id h (tries h) s.saved

-- A sheet is as told from what is in force and which tries are open.
as_told :
    (m : Meaning) (id : ℕ) (h : History) (t : Model) (cs : List Call) (ts : List ℕ) → InForce h ≡ cs → tries h ≡ ts →
    Fitting m cs t.core → Stack m id h ts t.saved → AsTold m id h t
as_told m id h t cs ts p q f k =
    record {
      core_fits = subst (λ (xs : List Call). Fitting m xs t.core) (sym p) f;
      stack = subst (λ (xs : List ℕ). Stack m id h xs t.saved) (sym q) k;
    }

-- What the open tries found, after one more call.
stack_after : (m : Meaning) (id : ℕ) (h : History) (s : Model) (e : Entry) → AsTold m id h s → Stack m id (e ∷ h) (tries h) s.saved
stack_after m id h s e p = stack_on m id e h (tries h) s.saved (facts h).below p.stack

-- After a refusal.
told_refused :
    (m : Meaning) (id : ℕ) (h : History) (s : Model) (e : Entry) → accepted e.answer ≡ false → AsTold m id h s → AsTold m id (e ∷ h) s
told_refused m id h s e a p =
    as_told m id (e ∷ h) s (InForce h) (tries h) (force_refused e h a) (tries_refused e h a) p.core_fits (stack_after m id h s e p)

-- After a line, a rule or a pinch that left the core c.
told_more :
    (m : Meaning) (id : ℕ) (h : History) (s : Model) (e : Entry) (c : Core) → accepted e.answer ≡ true → changes e.call ≡ true →
    ((n : ℕ) (ts : List ℕ) → tried e.call n ts ≡ ts) → ((ts gone : List ℕ) → gone_by e.call ts gone ≡ gone) →
    AsTold m id h s → Fitting m (e.call ∷ InForce h) c → AsTold m id (e ∷ h) (with_core s c)
told_more m id h s e c a x k g p f =
    as_told m id (e ∷ h) (with_core s c) (e.call ∷ InForce h) (tries h)
    (force_more e h a x g) (tries_accepted e h a ∙ k (length h) (tries h)) f (stack_after m id h s e p)

-- What settle answers is no refusal.
told_accepted : (n : ℕ) (e : Ending) → accepted (told n e) ≡ true
told_accepted n (standing c ws) = refl
told_accepted n (spent ws) = refl
told_accepted n (barren k) = refl

-- After a settle.
told_settle :
    (m : Meaning) (id : ℕ) (h : History) (s : Model) (n : ℕ) (answer : Answer) (t : Model) → Sound m s → AsTold m id h s →
    Settles m s n t answer → AsTold m id (entry (Call.Settle n) answer ∷ h) t
told_settle m id h s n answer t f p d =
    let e = entry (Call.Settle n) answer in
    let a : accepted answer ≡ true = ap accepted d.says ∙ told_accepted n d.ending in
    subst (AsTold m id (e ∷ h)) (sym d.leaves)
    (as_told m id (e ∷ h) (with_core s (settled s.core d.ending)) (InForce h) (tries h)
    (force_same e h a refl (λ ts gone. refl)) (tries_accepted e h a)
    (fitting_settle m (InForce h) s.core n d.ending f.core_sound p.core_fits d.run)
    (stack_after m id h s e p))

-- After an open.
told_open :
    (m : Meaning) (id : ℕ) (h : History) (s : Model) (answer : Answer) → accepted answer ≡ true → Reached m id h s → AsTold m id h s →
    AsTold m id (entry Call.Open answer ∷ h) (record { core = s.core; saved = s.core ∷ s.saved })
told_open m id h s answer a r p =
    let e = entry Call.Open answer in
    let here : earliest (length h) (e ∷ h) ≡ h = earliest_on (length h) e h (omega arith) ∙ earliest_all h in
    let found : Found m id h s.core = record { found = s; reached = r; same = refl; fitting = p.core_fits } in
    as_told m id (e ∷ h) (record { core = s.core; saved = s.core ∷ s.saved }) (InForce h) (length h ∷ tries h)
    (force_same e h a refl (λ ts gone. refl)) (tries_accepted e h a)
    p.core_fits
    (subst (λ (g : History). Found m id g s.core) (sym here) found, stack_after m id h s e p)

-- After a keep.
told_keep :
    (m : Meaning) (id : ℕ) (h : History) (s : Model) (number depth : ℕ) (answer : Answer) → accepted answer ≡ true → AsTold m id h s →
    AsTold m id (entry (Call.Keep number depth) answer ∷ h) (record { core = s.core; saved = drop 1 s.saved })
told_keep m id h s number depth answer a p =
    let e = entry (Call.Keep number depth) answer in
    as_told m id (e ∷ h) (record { core = s.core; saved = drop 1 s.saved }) (InForce h) (drop 1 (tries h))
    (force_same e h a refl (λ ts gone. refl)) (tries_accepted e h a)
    p.core_fits
    (stack_drop m id (e ∷ h) (tries h) s.saved (stack_after m id h s e p))

-- After a strike.
told_strike :
    (m : Meaning) (id : ℕ) (h : History) (s : Model) (number depth : ℕ) (answer : Answer) → accepted answer ≡ true → AsTold m id h s →
    0 < length s.saved →
    AsTold m id (entry (Call.Strike number depth) answer ∷ h) (record { core = get_or s.saved 0 s.core; saved = drop 1 s.saved })
told_strike m id h s number depth answer a p l =
    let e = entry (Call.Strike number depth) answer in
    as_told m id (e ∷ h) (record { core = get_or s.saved 0 s.core; saved = drop 1 s.saved }) (InForce (e ∷ h)) (drop 1 (tries h))
    refl (tries_accepted e h a)
    (struck_fits m id number depth answer h (tries h) s.saved s.core a refl p.stack l)
    (stack_drop m id (e ∷ h) (tries h) s.saved (stack_after m id h s e p))

-- After any accepted call.
told_does :
    (m : Meaning) (id : ℕ) (h : History) (s : Model) (call : Call) (answer : Answer) (t : Model) →
    Reached m id h s → AsTold m id h s → verdict m id s call ≡ None → Does m id s call t answer → AsTold m id (entry call answer ∷ h) t
told_does m id h s (Call.Line lo hi) answer t r p v d =
    let e = entry (Call.Line lo hi) answer in
    subst (AsTold m id (e ∷ h)) (sym d.0)
    (told_more m id h s e (lined s.core lo hi) (ap accepted d.1) refl (λ n ts. refl) (λ ts gone. refl) p
    (fitting_line m (InForce h) s.core lo hi (all_sound r).core_sound p.core_fits))
told_does m id h s (Call.Rule x) answer t r p v d =
    let e = entry (Call.Rule x) answer in
    subst (AsTold m id (e ∷ h)) (sym d.0)
    (told_more m id h s e (ruled s.core x) (ap accepted d.1) refl (λ n ts. refl) (λ ts gone. refl) p
    (fitting_rule m (InForce h) s.core x p.core_fits))
told_does m id h s (Call.Pinch k lo hi) answer t r p v d =
    let e = entry (Call.Pinch k lo hi) answer in
    subst (AsTold m id (e ∷ h)) (sym d.0)
    (told_more m id h s e (pinched s.core k lo hi) (ap accepted d.1) refl (λ n ts. refl) (λ ts gone. refl) p
    (fitting_pinch m (InForce h) s.core k lo hi p.core_fits (pinch_taken m id s k lo hi v).there))
told_does m id h s (Call.Settle n) answer t r p v d = told_settle m id h s n answer t (all_sound r) p d
told_does m id h s Call.Open answer t r p v d =
    subst (AsTold m id (entry Call.Open answer ∷ h)) (sym d.0) (told_open m id h s answer (ap accepted d.1) r p)
told_does m id h s (Call.Keep number depth) answer t r p v d =
    subst (AsTold m id (entry (Call.Keep number depth) answer ∷ h)) (sym d.0)
    (told_keep m id h s number depth answer (ap accepted d.1) p)
told_does m id h s (Call.Strike number depth) answer t r p v d =
    subst (AsTold m id (entry (Call.Strike number depth) answer ∷ h)) (sym d.0)
    (told_strike m id h s number depth answer (ap accepted d.1) p (strike_taken m id s number depth v))

-- After any call.
told_steps :
    (m : Meaning) (id : ℕ) (h : History) (s : Model) (call : Call) (answer : Answer) (t : Model) →
    Reached m id h s → AsTold m id h s → Steps m id s call t answer → AsTold m id (entry call answer ∷ h) t
told_steps m id h s call answer t r p (refused why v q a) =
    subst (AsTold m id (entry call answer ∷ h)) (sym q) (told_refused m id h s (entry call answer) (ap accepted a) p)
told_steps m id h s call answer t r p (does v d) = told_does m id h s call answer t r p v d

-- The sheet just set up is as the empty history has it.
told_empty : (m : Meaning) (id : ℕ) → AsTold m id [] empty
unfolding tries struck lasting
told_empty m id = record { core_fits = fitting_empty m; stack = tt }

-- Every sheet reached is as its history has it.
pub all_told : {m : Meaning} {id : ℕ} {h : History} {s : Model} → Reached m id h s → AsTold m id h s
all_told {m} {id} set_up = told_empty m id
all_told {m} {id} (called {h = h} {s = s} {t = t} {e = e} r p) = told_steps m id h s e.call e.answer t r (all_told r) p

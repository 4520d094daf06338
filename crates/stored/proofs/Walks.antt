-- One step of the walk, and what the sheet's call makes of it. Assumes nothing.
use Rattle.std.proofs.Common.{◌≡◌, ℕ, zero, suc, ◌-◌, ◌<◌, Bool, true, false, cond, ◌||◌, eqb, leb, List, [], ◌∷◌, length, Some, None, Ok, Err, Option, Result, sym, refl, ap, ◌∙◌, subst, ap₂, subst₂, arith}
use Rattle.std.proofs.lemmas.Bool.{eq-eqb, ne_eqb}
use Rattle.std.specs.Option.{is_some}
use Rattle.std.specs.Result.{result_err}
use Rattle.windows.specs.Meanings.{Meaning}
use Rattle.law.specs.declared.calls.Answer.{Answer}
use Rattle.law.specs.declared.calls.Refusal.{Refusal}
use Rattle.law.specs.declared.calls.Rule.{Rule}
use Rattle.law.specs.Histories.{History, entry}
use Rattle.law.specs.Law.{Called, Law}
use Rattle.law.specs.Sheets.{Model}
use Rattle.law.specs.Steps.{Does, refused, does, Reached, set_up}
use Rattle.law.proofs.Law.{lawful}
use Rattle.law.proofs.Sheets.{all_sound}
use Rattle.stored.specs.declared.fault.LoadFault.{LoadFault}
use Rattle.stored.specs.declared.fault.LoadFault.TheVariants.{Length, Head, Chain}
use Rattle.stored.specs.declared.item.Item.{Item}
use Rattle.stored.specs.Records.{records, record_at, byte, is_head, read, call_of}
use Rattle.stored.specs.Loads.{LedTo, Outcome, UnderLaw, Progress, progress, with_item, item_number, judged, step, on, on_read, walk, found, opened, Filled, bad_length, chain, loads}

-- The chain ends at index 0.
pub walk_done : {S : Type 0} (take : S → Item → Result S Refusal) (bytes : List ℕ) (left at : ℕ) (s : S) → at ≡ 0 → walk take bytes left at s ≡ Ok s
unfolding walk
walk_done take bytes zero at s e = ap (λ (b : Bool). cond b (Ok s) (Err (Chain at))) (eq-eqb at 0 e)
walk_done take bytes (suc left) at s e =
    ap (λ (b : Bool). cond b (Ok s) (cond (leb (records bytes) at) (Err (Chain at))
    (on_read at (take s) (λ t. walk take bytes left (byte (record_at bytes at) 1) t) (read (record_at bytes at))))) (eq-eqb at 0 e)

-- A record that is not opened ends the walk with its fault.
closed_by :
    {S : Type 0} (z b q : Bool) (at : ℕ) (s : S) (take : Item → Result S Refusal) (go : S → Result S LoadFault) (o : Option Item) (f : LoadFault) →
    z ≡ false → b ≡ false → cond (b || q) (Err (Chain at)) (found at o) ≡ Err f →
    cond z (Ok s) (cond q (Err (Chain at)) (on_read at take go o)) ≡ Err f
closed_by true b q at s take go o f p p' e = cc
closed_by false true q at s take go o f p p' e = cc
closed_by false false true at s take go o f p p' e = cc
closed_by false false false at s take go None f p p' e = cc
closed_by false false false at s take go (Some i) f p p' e = cc

-- One that is opened leads on by its item.
opened_by :
    {S : Type 0} (z b q : Bool) (at : ℕ) (s : S) (take : Item → Result S Refusal) (go : S → Result S LoadFault) (o : Option Item) (i : Item) →
    z ≡ false → cond (b || q) (Err (Chain at)) (found at o) ≡ Ok i →
    cond z (Ok s) (cond q (Err (Chain at)) (on_read at take go o)) ≡ on at go (take i)
opened_by true b q at s take go o i p e = cc
opened_by false true q at s take go o i p e = cc
opened_by false false true at s take go o i p e = cc
opened_by false false false at s take go None i p e = cc
opened_by false false false at s take go (Some j) i p e = cc

-- No record may be taken any more.
none_left : {S : Type 0} (z q : Bool) (at : ℕ) (s : S) (o : Option Item) (f : LoadFault) → z ≡ false → cond (true || q) (Err (Chain at)) (found at o) ≡ Err f → cond z (Ok s) (Err (Chain at)) ≡ Err f
none_left true q at s o f p e = cc
none_left false q at s o f p e = cc

-- Some record may be taken.
pub some_left : (bytes : List ℕ) (left at : ℕ) (i : Item) → opened bytes left at ≡ Ok i → 0 < left
some_left bytes zero at i e = absurd (cc)
some_left bytes (suc left) at i e = omega arith

-- The walk where its record is not opened.
pub walk_closed :
    {S : Type 0} (take : S → Item → Result S Refusal) (bytes : List ℕ) (left at : ℕ) (s : S) (f : LoadFault) →
    (at ≡ 0 → ⊥) → opened bytes left at ≡ Err f → walk take bytes left at s ≡ Err f
unfolding walk
walk_closed take bytes zero at s f n e = none_left (eqb at 0) (leb (records bytes) at) at s (read (record_at bytes at)) f (ne_eqb at 0 n) e
walk_closed take bytes (suc left) at s f n e =
    closed_by (eqb at 0) (eqb (suc left) 0) (leb (records bytes) at) at s (take s) (λ t. walk take bytes left (byte (record_at bytes at) 1) t) (read (record_at bytes at)) f
    (ne_eqb at 0 n) (ne_eqb (suc left) 0 (λ z. omega arith)) e

-- The walk where it is.
pub walk_on :
    {S : Type 0} (take : S → Item → Result S Refusal) (bytes : List ℕ) (left at : ℕ) (s : S) (i : Item) →
    (at ≡ 0 → ⊥) → opened bytes left at ≡ Ok i →
    walk take bytes left at s ≡ on at (λ t. walk take bytes (left - 1) (byte (record_at bytes at) 1) t) (take s i)
unfolding walk
walk_on take bytes zero at s i n e = cc
walk_on take bytes (suc left) at s i n e =
    let less : left ≡ suc left - 1 = omega arith in
    opened_by (eqb at 0) (eqb (suc left) 0) (leb (records bytes) at) at s (take s) (λ t. walk take bytes left (byte (record_at bytes at) 1) t) (read (record_at bytes at)) i
    (ne_eqb at 0 n) e
    ∙ ap (λ (k : ℕ). on at (λ t. walk take bytes k (byte (record_at bytes at) 1) t) (take s i)) less

-- What an accepted item does.
item_does : (m : Meaning) (id : ℕ) (s : Model) (i : Item) (t : Model) (a : Answer) → Does m id s (call_of i) t a → (t ≡ with_item s i) × (a ≡ Answer.Numbered (item_number s i))
item_does m id s (Item.Line lo hi) t a d = d
item_does m id s (Item.Rule r) t a d = d

-- The call took the item: the step does.
pub step_taken :
    (m : Meaning) (id : ℕ) (h : History) (s : Model) (i : Item) (t : Model) (k : ℕ) →
    Reached m id h s → Called m id s (call_of i) t (Answer.Numbered k) →
    step m id (progress h s) i ≡ Ok (progress (entry (call_of i) (Answer.Numbered k) ∷ h) t)
step_taken m id h s i t k reached called =
    elim (called.step (all_sound reached)) [
      | refused why v p a ↦ cc
      | does v d ↦
          let both = item_does m id s i t (Answer.Numbered k) d in
          ap (judged (progress h s) i) v
          ∙ ap₂ (λ (a : Answer) (x : Model). Ok (progress (entry (call_of i) a ∷ h) x)) (sym both.1) (sym both.0)
    ]

-- The call turned it away: so does the step.
pub step_refused :
    (m : Meaning) (id : ℕ) (h : History) (s : Model) (i : Item) (t : Model) (why : Refusal) →
    Reached m id h s → Called m id s (call_of i) t (Answer.Refused why) →
    step m id (progress h s) i ≡ Err why
step_refused m id h s i t why reached called =
    elim (called.step (all_sound reached)) [
      | refused because v p a ↦ let x : because ≡ why = cc in ap (judged (progress h s) i) v ∙ ap Err x
      | does v d ↦
          let both = item_does m id s i t (Answer.Refused why) d in
          let e : Answer.Refused why ≡ Answer.Numbered (item_number s i) = both.1 in
          cc
    ]

-- A filling that ended with a fault, and one that did not.
pub filled_fault :
    (m : Meaning) (id : ℕ) (s : Model) (r : Result (Unit {0}) LoadFault) (o : Result Progress LoadFault) (f : LoadFault) →
    r ≡ Err f → o ≡ Err f → Filled m id s r o
filled_fault m id s r o f p q = subst₂ (Filled m id s) (sym p) (sym q) refl

pub filled_whole :
    (m : Meaning) (id : ℕ) (s : Model) (h : History) (o : Result Progress LoadFault) →
    Reached m id h s → o ≡ Ok (progress h s) → Filled m id s (Ok tt) o
filled_whole m id s h o reached q = subst (Filled m id s (Ok tt)) (sym q) (refl, reached)

-- A load leaves a sheet that some history leads to.
pub load_led : (m : Meaning) (id : ℕ) (s : Model) (fault : Option LoadFault) (o : Result Progress LoadFault) → Outcome m id s fault o → LedTo m id s
load_led m id s fault (Ok p) out = record { history = p.history; reached = out.2; law = lawful m id p.history s out.2 }
load_led m id s fault (Err f) out =
    let reached : Reached m id [] s = subst (Reached m id []) (sym out.1) set_up in
    record { history = []; reached = reached; law = lawful m id [] s reached }

-- The law holds of the sheet t that a load leaves, with the calls taken as its history: where the filling has no fault it is the
-- sheet that was filled.
pub law_left :
    (m : Meaning) (id : ℕ) (s t : Model) (r : Result (Unit {0}) LoadFault) (o : Result Progress LoadFault) → Filled m id s r o →
    (is_some (result_err r) ≡ false → t ≡ s) → UnderLaw m id t o
law_left m id s t (Ok u) (Ok p) filled same = subst (Law m id p.history) (sym (same refl)) (lawful m id p.history s filled.1)
law_left m id s t (Ok u) (Err f) filled same = absurd filled
law_left m id s t (Err e) (Ok p) filled same = absurd filled
law_left m id s t (Err e) (Err f) filled same = tt

-- The call of an item that is a rule.
pub called_rule :
    (m : Meaning) (id : ℕ) (s t : Model) (a : Answer) (i : Item) (r : Rule) → i ≡ Item.Rule r →
    Called m id s (call_of (Item.Rule r)) t a → Called m id s (call_of i) t a
called_rule m id s t a i r e q = subst (λ (x : Item). Called m id s (call_of x) t a) (sym e) q

-- A load by its length, by its head, and by its chain.
pub loads_length : (m : Meaning) (id drive mode : ℕ) (bytes : List ℕ) → bad_length (length bytes) ≡ true → loads m id drive mode bytes ≡ Err Length
unfolding loads
loads_length m id drive mode bytes p =
    ap (λ (b : Bool). cond b (Err Length) (cond (is_head drive mode (record_at bytes 0)) (chain m id bytes) (Err Head))) p

pub loads_head :
    (m : Meaning) (id drive mode : ℕ) (bytes : List ℕ) → bad_length (length bytes) ≡ false → is_head drive mode (record_at bytes 0) ≡ false →
    loads m id drive mode bytes ≡ Err Head
unfolding loads
loads_head m id drive mode bytes p q =
    ap₂ (λ (b d : Bool). cond b (Err Length) (cond d (chain m id bytes) (Err Head))) p q

pub loads_chain :
    (m : Meaning) (id drive mode : ℕ) (bytes : List ℕ) → bad_length (length bytes) ≡ false → is_head drive mode (record_at bytes 0) ≡ true →
    loads m id drive mode bytes ≡ chain m id bytes
unfolding loads
loads_chain m id drive mode bytes p q =
    ap₂ (λ (b d : Bool). cond b (Err Length) (cond d (chain m id bytes) (Err Head))) p q

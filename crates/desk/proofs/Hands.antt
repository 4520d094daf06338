-- What calls leave of a hand that is in step with its sheet.
use Rattle.std.proofs.Common.{◌≡◌, ℕ, suc, ◌+◌, ◌<◌, ◌≤◌, Bool, true, false, cond, not, ◌||◌, eqb, List, [], ◌∷◌, ◌++◌, length, get_or, take, drop, Some, None, Ok, Err, Option, Result, sym, refl, ap, ◌∙◌, inl, inr, arith, drop-cons}
use mathlib.Core.Logic.{∥∥₁_elim, ∥∥₁_map}
use native.Mathlib.Nat.{ℕ_set}
use Rattle.std.proofs.lemmas.List.{drop_at, get_or_append_left, get_or_push, length-drop, length_push, length-take-le, take-append-drop, take_at}
use Rattle.std.proofs.lemmas.Bool.{cases_lt, eqb-false, eqb-true, not-false, or_parts}
use Rattle.std.specs.List.{insert, remove}
use Rattle.windows.specs.Meanings.{Meaning}
use Rattle.law.specs.declared.calls.Answer.{Answer}
use Rattle.law.specs.declared.calls.Call.{Call}
use Rattle.law.specs.declared.calls.Refusal.{Refusal}
use Rattle.law.specs.Law.{Called}
use Rattle.law.specs.Sheets.{Core, Model}
use Rattle.law.specs.Sound.{Sound}
use Rattle.law.specs.Steps.{Does, Steps, refused, does, set_up}
use Rattle.law.specs.Table.{checks, first, is_barren, ticket_cases, verdict, wrong_ticket}
use Rattle.law.proofs.Sheets.{all_sound}
use Rattle.law.proofs.Verdicts.{open_taken}
use Rattle.sheet.specs.declared.ticket.Returned.{Returned}
use Rattle.sheet.specs.declared.ticket.Ticket.{Ticket}
use Rattle.sheet.specs.Answers.{pinched}
use Rattle.sheet.specs.Tickets.{Innermost}
use Rattle.std.specs.Option.{MatchOption}
use Rattle.std.specs.Result.{is_err, result_err}
use Rattle.stored.specs.declared.fault.LoadFault.{LoadFault}
use Rattle.stored.specs.Loads.{Outcome, Progress}
use Rattle.desk.specs.declared.held.Held.{Held}
use Rattle.desk.specs.declared.folder.calls.Plain.{Plain}
use Rattle.desk.specs.declared.folder.tickets.Ending.{Ending}
use Rattle.desk.specs.Endings.{call_by, ended}
use Rattle.desk.specs.Hands.{Agrees, InStep, call_of}

-- A plain call opens and closes no try.
does_kept : (m : Meaning) (id : ℕ) (s : Model) (p : Plain) (t : Model) (a : Answer) → Does m id s (call_of p) t a → length t.saved ≡ length s.saved
does_kept m id s (Plain.Line lo hi) t a d = ap (λ (x : Model). length x.saved) d.0
does_kept m id s (Plain.Rule kind x y z) t a d = ap (λ (x : Model). length x.saved) d.0
does_kept m id s (Plain.Pinch line lo hi) t a d = ap (λ (x : Model). length x.saved) d.0
does_kept m id s (Plain.Settle n) t a d = ap (λ (x : Model). length x.saved) d.leaves

saved_kept : (m : Meaning) (id : ℕ) (s : Model) (p : Plain) (t : Model) (a : Answer) → Steps m id s (call_of p) t a → length t.saved ≡ length s.saved
saved_kept m id s p t a (refused why v same says) = ap (λ (x : Model). length x.saved) same
saved_kept m id s p t a (does v d) = does_kept m id s p t a d

-- The hand stays in step.
pub plain_in_step :
    {m m' : Meaning} {id id' : ℕ} {s : Model} {hand : List Held} {room : ℕ} (p : Plain) {t : Model} {a : Answer} {call : Call} →
    m' ≡ m → id' ≡ id → call_of p ≡ call → InStep m id s hand room → Called m id s call t a → InStep m' id' t hand room
plain_in_step {m} {m'} {id} {id'} {s} {hand} {room} p {t} {a} {call} em ei ec i c =
    let c' : Called m id s (call_of p) t a = rw ec c in
    rw (em, ei) (∥∥₁_map i (λ (g : Agrees m id s hand room). record {
      sound = c'.sound g.sound;
      stacked = g.stacked;
      each = g.each ∙ sym (saved_kept m id s p t a (c'.step g.sound));
      roomy = g.roomy;
    }))

-- An accepted open: one more try, and its ticket.
pub record Begun (id : ℕ) (s t : Model) (number depth : ℕ) : Type 0 where
  pub one_more : length t.saved ≡ length s.saved + 1
  pub own : number ≡ id
  pub next : depth ≡ length s.saved + 1
  pub few : length s.saved < 8

pub begun : (m : Meaning) (id : ℕ) (s t : Model) (number depth : ℕ) → Steps m id s Call.Open t (Answer.Opened number depth) → Begun id s t number depth
begun m id s t number depth (refused why v same says) = cc says
begun m id s t number depth (does v d) =
    record {
      one_more = ap (λ (x : Model). length x.saved) d.0 ∙ omega arith;
      own = cc d.1;
      next = cc d.1;
      few = open_taken m id s v;
    }

-- One more ticket.
pub more_in_step :
    {m m' : Meaning} {id id' : ℕ} {s t : Model} {hand hand' : List Held} {room room' : ℕ} {answer : Answer} (h : Held) →
    m' ≡ m → id' ≡ id → InStep m id s hand room → Called m id s Call.Open t answer → Begun id s t h.ticket.number h.ticket.depth →
    hand' ≡ hand ++ (h ∷ []) → room' ≡ room → InStep m' id' t hand' room'
more_in_step {m} {m'} {id} {id'} {s} {t} {hand} {hand'} {room} {room'} h em ei i c b eh er =
    rw (em, ei, eh, er) (∥∥₁_map i (λ (g : Agrees m id s hand room). record {
      sound = c.sound g.sound;
      stacked = λ k d lt. elim (cases_lt k (length hand)) [
        | inl below ↦ rw (get_or_append_left hand (h ∷ []) d k below) (g.stacked k d below)
        | inr above ↦
            let at : length hand ≡ k = omega (arith, length_push hand h) in
            rw (get_or_push hand h d k at) (b.own, b.next ∙ omega (arith, g.each))
      ];
      each = length_push hand h ∙ omega (arith, g.each, b.one_more);
      roomy = g.roomy;
    }))

-- No case applies where the first that does is none.
no_case : (b : Bool) (why : Refusal) (o : Option Refusal) → cond b (Some why) o ≡ None → (b ≡ false) × (o ≡ None)
no_case true why o e = cc e
no_case false why o e = (refl, e)

-- The ticket that was taken.
pub record Right (id tries number depth : ℕ) : Type 0 where
  pub own : number ≡ id
  pub deepest : depth ≡ tries
  pub real : 0 < depth

right : (id tries number depth : ℕ) → wrong_ticket id tries number depth ≡ false → Right id tries number depth
right id tries number depth e =
    let a = or_parts (not (eqb number id)) (not (eqb depth tries) || eqb depth 0) e in
    let b = or_parts (not (eqb depth tries)) (eqb depth 0) a.1 in
    let z : depth ≡ 0 → ⊥ = eqb-false depth 0 b.1 in
    record {
      own = eqb-true number id (not-false (eqb number id) a.0);
      deepest = eqb-true depth tries (not-false (eqb depth tries) b.0);
      real = omega (arith, z);
    }

-- An accepted keep or strike: the ticket was innermost, and there is one try less.
pub record Over (id : ℕ) (s t : Model) (number depth : ℕ) : Type 0 where
  pub ticket : Right id (length s.saved) number depth
  pub one_less : length t.saved + 1 ≡ length s.saved

less : (s t : Model) (xs : List Core) → xs ≡ drop 1 s.saved → t.saved ≡ xs → 0 < length s.saved → length t.saved + 1 ≡ length s.saved
less s t xs e f some = let n = ap length (f ∙ e) ∙ length-drop 1 s.saved in omega arith

pub over : (m : Meaning) (id : ℕ) (s t : Model) (e : Ending) (number depth : ℕ) (u : Unit {0}) → Steps m id s (call_by e number depth) t (ended e (Ok u)) → Over id s t number depth
unfolding verdict checks
over m id s t Ending.Keep number depth u (refused why v same says) = cc says
over m id s t Ending.Keep number depth u (does v d) =
    let open-case = no_case (is_barren s.core.state) Refusal.IsBarren (first (ticket_cases id (length s.saved) number depth)) v in
    let last-case = no_case (wrong_ticket id (length s.saved) number depth) Refusal.WrongTicket None open-case.1 in
    let r = right id (length s.saved) number depth last-case.0 in
    record { ticket = r; one_less = less s t _ refl (ap (λ (x : Model). x.saved) d.0) (omega (arith, r.deepest, r.real)) }
over m id s t Ending.Strike number depth u (refused why v same says) = cc says
over m id s t Ending.Strike number depth u (does v d) =
    let last-case = no_case (wrong_ticket id (length s.saved) number depth) Refusal.WrongTicket None v in
    let r = right id (length s.saved) number depth last-case.0 in
    record { ticket = r; one_less = less s t _ refl (ap (λ (x : Model). x.saved) d.0) (omega (arith, r.deepest, r.real)) }

-- A refused one leaves the sheet.
pub stays : (m : Meaning) (id : ℕ) (s t : Model) (e : Ending) (number depth : ℕ) (back : Returned) → Steps m id s (call_by e number depth) t (ended e (Err back)) → t ≡ s
stays m id s t e number depth back (refused why v same says) = same
stays m id s t Ending.Keep number depth back (does v d) = cc d.1
stays m id s t Ending.Strike number depth back (does v d) = cc d.1

-- A ticket of another sheet leaves the sheet.
pub turned_away :
    (m : Meaning) (id : ℕ) (s t : Model) (e : Ending) (number depth : ℕ) (r : Result (Unit {0}) Returned) → (number ≡ id → ⊥) →
    Steps m id s (call_by e number depth) t (ended e r) → t ≡ s
turned_away m id s t e number depth (Ok u) apart st = absurd (apart (over m id s t e number depth u st).ticket.own)
turned_away m id s t e number depth (Err back) apart st = stays m id s t e number depth back st

-- And is refused.
pub other_refused :
    (m : Meaning) (id : ℕ) (s t : Model) (e : Ending) (number depth : ℕ) (r : Result (Unit {0}) Returned) → (number ≡ id → ⊥) →
    Steps m id s (call_by e number depth) t (ended e r) → is_err r ≡ true
other_refused m id s t e number depth (Ok u) apart st = absurd (apart (over m id s t e number depth u st).ticket.own)
other_refused m id s t e number depth (Err back) apart st = refl

-- What a pinch answers, by its refusal or none.
pub pinch_said :
    (r : Result (Unit {0}) Refusal) (o : Option Refusal) (a : Answer) → o ≡ result_err r →
    MatchOption o (a ≡ Answer.Pinched) (λ why. a ≡ Answer.Refused why) → a ≡ pinched r
pinch_said (Ok u) o a e h = rw e at h
pinch_said (Err why) o a e h = rw e at h

-- One ticket less: the last.
pub less_in_step :
    {m m' : Meaning} {id id' : ℕ} {s t : Model} {hand hand' : List Held} {room room' : ℕ} {call : Call} {answer : Answer} {number depth : ℕ} →
    m' ≡ m → id' ≡ id → InStep m id s hand room → Called m id s call t answer → Over id s t number depth →
    length hand' + 1 ≡ length hand → ((k : ℕ) (d : Held) → k < length hand' → get_or hand' k d ≡ get_or hand k d) → room' ≡ room → InStep m' id' t hand' room'
less_in_step {m} {m'} {id} {id'} {s} {t} {hand} {hand'} {room} {room'} em ei i c o one same er =
    rw (em, ei, er) (∥∥₁_map i (λ (g : Agrees m id s hand room). record {
      sound = c.sound g.sound;
      stacked = λ k d lt. rw (same k d lt) (g.stacked k d (omega arith));
      each = omega (arith, g.each, o.one_less);
      roomy = g.roomy;
    }))

-- Taken out and put back.
pub put_back : (xs ys zs : List Held) (i : ℕ) (x x' : Held) → i < length xs → x ≡ get_or xs i x → ys ≡ remove xs i → x' ≡ x → zs ≡ insert ys i x' → zs ≡ xs
put_back xs ys zs i x x' lt e f g h =
    let long : length (take i xs) ≡ i = length-take-le i xs (omega arith) in
    let front : take i ys ≡ take i xs = ap (take i) f ∙ take_at (take i xs) (drop (suc i) xs) i long in
    let rest : drop i ys ≡ drop (suc i) xs = ap (drop i) f ∙ drop_at (take i xs) (drop (suc i) xs) i long in
    let here : drop i xs ≡ x ∷ drop (suc i) xs = drop-cons xs i x lt ∙ ap (λ (y : Held). y ∷ drop (suc i) xs) (sym e) in
    h ∙ rw (front, rest, g, ← here) (take-append-drop i xs)

-- The same hand, on the same sheet.
pub same_in_step :
    {m m' : Meaning} {id id' : ℕ} {s t : Model} {hand hand' : List Held} {room room' : ℕ} →
    m' ≡ m → id' ≡ id → t ≡ s → hand' ≡ hand → room ≤ room' → InStep m id s hand room → InStep m' id' t hand' room'
same_in_step {m} {m'} {id} {id'} {s} {t} {hand} {hand'} {room} {room'} em ei et eh er i =
    rw (em, ei, et, eh) (∥∥₁_map i (λ (g : Agrees m id s hand room). record {
      sound = g.sound;
      stacked = g.stacked;
      each = g.each;
      roomy = omega (arith, g.roomy);
    }))

-- The last ticket in hand is innermost.
pub last_innermost :
    {m : Meaning} {id : ℕ} {s : Model} {hand : List Held} {room : ℕ} (hand' : List Held) (h : Held) (ticket : Ticket) →
    InStep m id s hand room → hand ≡ hand' ++ (h ∷ []) → h.ticket ≡ ticket → ∥ Innermost id s ticket.number ticket.depth ∥₁
last_innermost {m} {id} {s} {hand} {room} hand' h ticket i e f =
    rw (← f) (∥∥₁_map i (λ (g : Agrees m id s hand room).
    let n : length hand ≡ length hand' + 1 = ap length e ∙ length_push hand' h in
    let it : get_or hand (length hand') h ≡ h = ap (λ (l : List Held). get_or l (length hand') h) e ∙ get_or_push hand' h h (length hand') refl in
    let at : (h.ticket.number ≡ id) × (h.ticket.depth ≡ length hand' + 1) = rw it at (g.stacked (length hand') h (omega arith)) in
    record { own = at.0; deepest = at.1 ∙ omega (arith, g.each); real = omega (arith, at.1) }))

-- A ticket of the hand that was taken: it was the last.
pub spent_in_step :
    {m m' : Meaning} {id id' : ℕ} {s t : Model} {hand hand' : List Held} {room room' : ℕ} {call : Call} {answer : Answer} (at : ℕ) (h : Held) →
    m' ≡ m → id' ≡ id → InStep m id s hand room → Called m id s call t answer → Over id s t h.ticket.number h.ticket.depth →
    at < length hand → h ≡ get_or hand at h → length hand' + 1 ≡ length hand → ((k : ℕ) (d : Held) → k < at → get_or hand' k d ≡ get_or hand k d) →
    room' ≡ room → InStep m' id' t hand' room'
spent_in_step {m} {m'} {id} {id'} {s} {t} {hand} {hand'} {room} {room'} at h em ei i c o lt e one same er =
    rw (em, ei, er) (∥∥₁_map i (λ (g : Agrees m id s hand room).
    let deep : h.ticket.depth ≡ at + 1 = ap (λ (x : Held). x.ticket.depth) e ∙ (g.stacked at h lt).1 in
    let last : at + 1 ≡ length hand = omega (arith, o.ticket.deepest, g.each) in
    record {
      sound = c.sound g.sound;
      stacked = λ k d below. rw (same k d (omega arith)) (g.stacked k d (omega arith));
      each = omega (arith, g.each, o.one_less);
      roomy = g.roomy;
    }))

-- A sound sheet is sound for an equal meaning.
pub sound_moved : {m m' : Meaning} {s : Model} → m' ≡ m → Sound m s → ∥ Sound m' s ∥₁
sound_moved {m} {m'} {s} e sound = rw e (∣ sound ∣₁)

-- A hand without its last ticket has the others as they were.
pub others_same : (hand hand' : List Held) (h : Held) → hand ≡ hand' ++ (h ∷ []) → (k : ℕ) (d : Held) → k < length hand' → get_or hand' k d ≡ get_or hand k d
others_same hand hand' h e k d lt = sym (ap (λ (l : List Held). get_or l k d) e ∙ get_or_append_left hand' (h ∷ []) d k lt)

-- An empty hand, for a sheet without an open try.
pub fresh_in_step : {m : Meaning} {id : ℕ} {s : Model} {hand : List Held} {room : ℕ} → ∥ Sound m s ∥₁ → hand ≡ [] → length s.saved ≡ 0 → 8 ≤ room → InStep m id s hand room
fresh_in_step {m} {id} {s} {hand} {room} sound e none roomy =
    ∥∥₁_map sound (λ (g : Sound m s). record {
      sound = g;
      stacked = λ k d lt. absurd (omega (arith, ap length e));
      each = ap length e ∙ sym none;
      roomy = roomy;
    })

-- A ticket in hand is of its folder's sheet.
pub owned : {m : Meaning} {id : ℕ} {s : Model} {hand : List Held} {room : ℕ} (k : ℕ) (h : Held) → InStep m id s hand room → k < length hand → h ≡ get_or hand k h → h.ticket.number ≡ id
owned {m} {id} {s} {hand} {room} k h i lt e =
    ∥∥₁_elim i (ℕ_set h.ticket.number id) (λ (g : Agrees m id s hand room). ap (λ (x : Held). x.ticket.number) e ∙ (g.stacked k h lt).0)

-- A sheet that a load left is sound.
pub loaded_sound : (m : Meaning) (id : ℕ) (s : Model) (fault : Option LoadFault) (o : Result Progress LoadFault) → Outcome m id s fault o → Sound m s
loaded_sound m id s fault (Ok p) l = all_sound l.2
loaded_sound m id s fault (Err f) l = rw l.1 (all_sound {id = id} set_up)

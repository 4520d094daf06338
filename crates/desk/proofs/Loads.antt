-- A load opens no try.
use Rattle.std.proofs.Common.{◌≡◌, ℕ, zero, suc, Bool, true, false, cond, length, List, ◌∷◌, Some, None, Ok, Err, Option, Result, refl, ap, ◌∙◌, subst}
use Rattle.std.specs.Prelude.{◌==◌, nat_le}
use Rattle.windows.specs.Meanings.{Meaning}
use Rattle.law.specs.declared.calls.Answer.{Answer}
use Rattle.law.specs.declared.calls.Refusal.{Refusal}
use Rattle.law.specs.Histories.{entry}
use Rattle.law.specs.Sheets.{Model}
use Rattle.law.specs.Table.{verdict}
use Rattle.stored.specs.declared.fault.LoadFault.{LoadFault}
use Rattle.stored.specs.declared.item.Item.{Item}
use Rattle.stored.specs.Loads.{Outcome, Progress, bad_length, chain, item_number, judged, loads, on, on_read, progress, start, step, walk, with_item}
use Rattle.stored.specs.Records.{byte, call_of, is_head, read, record_at, records}

-- The sheet reached has so many open tries, if one is reached.
abbrev pub Idle : ℕ → Result Progress LoadFault → Type 0
Idle n (Ok p) = length p.sheet.saved ≡ n
Idle n (Err f) = Unit {0}

-- So it is of both, and of either.
idle_cond : (n : ℕ) (b : Bool) (x y : Result Progress LoadFault) → Idle n x → Idle n y → Idle n (cond b x y)
idle_cond n true x y p q = p
idle_cond n false x y p q = q

-- An item opens no try.
item_kept : (s : Model) (i : Item) → length (with_item s i).saved ≡ length s.saved
item_kept s (Item.Line lo hi) = refl
item_kept s (Item.Rule r) = refl

-- An item taken, or turned away, opens none, if what follows opens none.
idle_judged :
    (s : Progress) (i : Item) (at : ℕ) (go : Progress → Result Progress LoadFault) → ((t : Progress) → Idle (length t.sheet.saved) (go t)) →
    (v : Option Refusal) → Idle (length s.sheet.saved) (on at go (judged s i v))
idle_judged s i at go h None =
    let t : Progress = progress (entry (call_of i) (Answer.Numbered (item_number s.sheet i)) ∷ s.history) (with_item s.sheet i) in
    subst (λ (n : ℕ). Idle n (go t)) (item_kept s.sheet i) (h t)
idle_judged s i at go h (Some why) = tt

-- Nor does a record, whether or not it can be read.
idle_read :
    (m : Meaning) (id : ℕ) (s : Progress) (at : ℕ) (go : Progress → Result Progress LoadFault) → ((t : Progress) → Idle (length t.sheet.saved) (go t)) →
    (o : Option Item) → Idle (length s.sheet.saved) (on_read at (step m id s) go o)
idle_read m id s at go h None = tt
idle_read m id s at go h (Some i) = idle_judged s i at go h (verdict m id s.sheet (call_of i))

-- Nor does a chain.
idle_walk : (m : Meaning) (id : ℕ) (bytes : List ℕ) (left at : ℕ) (s : Progress) → Idle (length s.sheet.saved) (walk (step m id) bytes left at s)
unfolding walk
idle_walk m id bytes zero at s = idle_cond (length s.sheet.saved) (at == 0) (Ok s) (Err (LoadFault.Chain at)) refl tt
idle_walk m id bytes (suc left) at s =
    let go : Progress → Result Progress LoadFault = λ (t : Progress). walk (step m id) bytes left (byte (record_at bytes at) 1) t in
    let rest : Result Progress LoadFault = on_read at (step m id s) go (read (record_at bytes at)) in
    idle_cond (length s.sheet.saved) (at == 0) (Ok s) (cond (nat_le (records bytes) at) (Err (LoadFault.Chain at)) rest) refl
    (idle_cond (length s.sheet.saved) (nat_le (records bytes) at) (Err (LoadFault.Chain at)) rest tt
    (idle_read m id s at go (idle_walk m id bytes left (byte (record_at bytes at) 1)) (read (record_at bytes at))))

-- Nor does a whole load.
idle_loads : (m : Meaning) (id d mode : ℕ) (bytes : List ℕ) → Idle 0 (loads m id d mode bytes)
unfolding loads
idle_loads m id d mode bytes =
    idle_cond 0 (bad_length (length bytes)) (Err LoadFault.Length) (cond (is_head d mode (record_at bytes 0)) (chain m id bytes) (Err LoadFault.Head)) tt
    (idle_cond 0 (is_head d mode (record_at bytes 0)) (chain m id bytes) (Err LoadFault.Head) (idle_walk m id bytes _ _ start) tt)

-- A sheet that is left with so many open tries has them.
left_idle : (m : Meaning) (id : ℕ) (s : Model) (fault : Option LoadFault) (o : Result Progress LoadFault) → Outcome m id s fault o → Idle 0 o → length s.saved ≡ 0
left_idle m id s fault (Ok p) l i = ap (λ (x : Model). length x.saved) l.1 ∙ i
left_idle m id s fault (Err f) l i = ap (λ (x : Model). length x.saved) l.1

-- A sheet that a load left has no open try.
pub loaded_idle :
    (m : Meaning) (id : ℕ) (s : Model) (fault : Option LoadFault) (d mode : ℕ) (bytes : List ℕ) → Outcome m id s fault (loads m id d mode bytes) →
    length s.saved ≡ 0
loaded_idle m id s fault d mode bytes l = left_idle m id s fault (loads m id d mode bytes) l (idle_loads m id d mode bytes)

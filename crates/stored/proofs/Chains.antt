-- Why a load ends as it does. Assumes nothing.
use Rattle.std.proofs.Common.{◌≡◌, ℕ, zero, suc, ◌-◌, ◌<◌, ◌≤◌, Bool, true, false, cond, eqb, leb, List, [], ◌∷◌, length, Some, None, Ok, Err, Option, Result, sym, refl, ap, ◌∙◌, subst, inl, inr, arith}
use Rattle.std.proofs.lemmas.Bool.{eqb-true, eqb-false, leb-true, leb-false}
use Rattle.windows.specs.Meanings.{Meaning}
use Rattle.law.specs.declared.calls.Refusal.{Refusal}
use Rattle.stored.specs.declared.fault.LoadFault.{LoadFault}
use Rattle.stored.specs.declared.fault.LoadFault.TheVariants.{Length, Head, Chain, Record, Call}
use Rattle.stored.specs.declared.item.Item.{Item}
use Rattle.stored.specs.Records.{records, record_at, byte, is_head, read}
use Rattle.stored.specs.Loads.{Progress, bad_length, chain, loads, on, on_read, start, step, walk}
use Rattle.stored.specs.Chains.{Because, EndsAt, Leads, Story, Takes, Told, here, on_to}
use Rattle.stored.proofs.Walks.{walk_done, walk_on, loads_chain}
use Rattle.stored.proofs.Rounds.{opens}

-- An index that is not 0.
positive : (at : ℕ) → eqb at 0 ≡ false → 0 < at
positive at e = let f : (at ≡ 0 → ⊥) = eqb-false at 0 e in omega arith

module _ {S : Type 0} (take : S → Item → Result S Refusal) (bytes : List ℕ) where
  -- The load ends where it stands.
  ends_here : (left at : ℕ) (s : S) (o : Result S LoadFault) → EndsAt take bytes left at s o → Story take bytes left at s o
  ends_here left at s o e = record { items = []; to = at; spare = left; after = s; leads = here; counted = omega arith; takes = refl; ends = e }

  -- One more item was taken.
  goes_on :
      (left at : ℕ) (s u : S) (i : Item) (o : Result S LoadFault) → 0 < at → at < records bytes → read (record_at bytes at) ≡ Some i → take s i ≡ Ok u →
      Story take bytes left (byte (record_at bytes at) 1) u o → Story take bytes (suc left) at s o
  goes_on left at s u i o pos inside reads taken rest = record {
    items = i ∷ rest.items;
    to = rest.to;
    spare = rest.spare;
    after = rest.after;
    leads = on_to pos inside reads rest.leads;
    counted = omega (arith, rest.counted);
    takes = (u, taken, rest.takes);
    ends = rest.ends;
  }

  -- No record may be taken any more.
  last_turn : (at : ℕ) (s : S) (z : Bool) → eqb at 0 ≡ z → Story take bytes 0 at s (cond z (Ok s) (Err (Chain at)))
  last_turn at s true e = ends_here 0 at s (Ok s) (eqb-true at 0 e, refl)
  last_turn at s false e = ends_here 0 at s (Err (Chain at)) (refl, positive at e, inr refl)

  module _ (left at : ℕ) (s : S) (go : S → Result S LoadFault) (rest : (u : S) → Story take bytes left (byte (record_at bytes at) 1) u (go u)) where
    -- The call of the record was made.
    call_turn :
        (i : Item) (r : Result S Refusal) → 0 < at → at < records bytes → read (record_at bytes at) ≡ Some i → take s i ≡ r →
        Story take bytes (suc left) at s (on at go r)
    call_turn i (Ok u) pos inside reads e = goes_on left at s u i (go u) pos inside reads e (rest u)
    call_turn i (Err why) pos inside reads e = ends_here (suc left) at s (Err (Call why at)) (refl, pos, inside, omega arith, (i, reads, e))

    -- One turn of the chain.
    turn :
        (z y : Bool) (o : Option Item) → eqb at 0 ≡ z → leb (records bytes) at ≡ y → read (record_at bytes at) ≡ o →
        Story take bytes (suc left) at s (cond z (Ok s) (cond y (Err (Chain at)) (on_read at (take s) go o)))
    turn true y o p q r = ends_here (suc left) at s (Ok s) (eqb-true at 0 p, refl)
    turn false true o p q r = ends_here (suc left) at s (Err (Chain at)) (refl, positive at p, inl (leb-true (records bytes) at q))
    turn false false None p q r = ends_here (suc left) at s (Err (Record at)) (refl, positive at p, leb-false (records bytes) at q, omega arith, r)
    turn false false (Some i) p q r = call_turn i (take s i) (positive at p) (leb-false (records bytes) at q) r refl

  -- Every walk along the chain has its story.
  story : (left at : ℕ) (s : S) → Story take bytes left at s (walk take bytes left at s)
  unfolding walk
  story zero at s = last_turn at s (eqb at 0) refl
  story (suc left) at s =
      turn left at s (λ t. walk take bytes left (byte (record_at bytes at) 1) t) (λ u. story left (byte (record_at bytes at) 1) u)
      (eqb at 0) (leb (records bytes) at) (read (record_at bytes at)) refl refl refl

  -- Items that the chain leads by, and that are taken, are walked along.
  walked : (left at : ℕ) (s t : S) (items : List Item) → Leads bytes at items 0 → length items ≤ left → Takes take items s t → walk take bytes left at s ≡ Ok t
  walked left at s t [] here few q = walk_done take bytes left at s refl ∙ ap Ok q
  walked zero at s t (i ∷ items) (on_to pos inside reads leads) few q = absurd (omega arith)
  walked (suc left) at s t (i ∷ items) (on_to pos inside reads leads) few q =
      let less : suc left - 1 ≡ left = omega arith in
      let fewer : length items ≤ left = omega arith in
      walk_on take bytes (suc left) at s i (λ z. omega arith) (opens bytes left at i inside reads)
      ∙ ap (on at (λ u. walk take bytes (suc left - 1) (byte (record_at bytes at) 1) u)) q.1
      ∙ ap (λ (k : ℕ). walk take bytes k (byte (record_at bytes at) 1) q.0) less
      ∙ walked left (byte (record_at bytes at) 1) q.0 t items leads fewer q.2

module _ (m : Meaning) (id drive mode : ℕ) where
  -- The story of a chain, as the reason of a load.
  by_chain :
      (bytes : List ℕ) (o : Result Progress LoadFault) → bad_length (length bytes) ≡ false → is_head drive mode (record_at bytes 0) ≡ true →
      Story (step m id) bytes (records bytes - 1) (byte (record_at bytes 0) 1) start o → Because m id drive mode bytes o
  by_chain bytes (Ok p) long headed t = record {
    long = long;
    headed = headed;
    items = t.items;
    leads = subst (Leads bytes (byte (record_at bytes 0) 1) t.items) t.ends.0 t.leads;
    few = omega (arith, t.counted);
    takes = subst (Takes (step m id) t.items start) (sym t.ends.1) t.takes;
  }
  by_chain bytes (Err Length) long headed t = absurd t.ends
  by_chain bytes (Err Head) long headed t = absurd t.ends
  by_chain bytes (Err (Chain at)) long headed t = (long, headed, t)
  by_chain bytes (Err (Record at)) long headed t = (long, headed, t)
  by_chain bytes (Err (Call why at)) long headed t = (long, headed, t)

  -- By its length, by its head, or by its chain.
  by_turns :
      (bytes : List ℕ) (b h : Bool) → bad_length (length bytes) ≡ b → is_head drive mode (record_at bytes 0) ≡ h →
      Because m id drive mode bytes (cond b (Err Length) (cond h (chain m id bytes) (Err Head)))
  by_turns bytes true h p q = p
  by_turns bytes false true p q = by_chain bytes (chain m id bytes) p q (story (step m id) bytes (records bytes - 1) (byte (record_at bytes 0) 1) start)
  by_turns bytes false false p q = (p, q)

  -- Every load ends for its reason.
  because : (bytes : List ℕ) → Because m id drive mode bytes (loads m id drive mode bytes)
  unfolding loads
  because bytes = by_turns bytes (bad_length (length bytes)) (is_head drive mode (record_at bytes 0)) refl refl

  pub told : Told m id drive mode
  told = record {
    because = because;
    whole = λ bytes p w.
        loads_chain m id drive mode bytes w.long w.headed
        ∙ walked (step m id) bytes (records bytes - 1) (byte (record_at bytes 0) 1) start p w.items w.leads w.few w.takes;
  }

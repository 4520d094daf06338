-- What a store writes comes back by a load. Assumes nothing.
use Rattle.std.proofs.Common.{◌≡◌, ℕ, zero, suc, ◌+◌, ◌-◌, ◌*◌, ◌/◌, ◌%◌, ◌<◌, ◌≤◌, Bool, true, false, cond, not, ◌&&◌, ◌||◌, eqb, ltb, leb, ◌⊎◌, List, [], ◌∷◌, ◌++◌, map, length, take, drop, Some, None, Ok, Err, Option, Result, sym, refl, ap, ◌∙◌, subst, ap₂, inl, inr, arith, lit<}
use Rattle.std.proofs.lemmas.List.{append-nil, append_assoc, length-append, take_at, drop_at}
use Rattle.std.proofs.lemmas.Bool.{eq-eqb, ne_eqb, or_from, and_from, and_left, and_right, not_from_true, cases_eq, cases_lt, cond-true, cond-false, le-leb, lt-leb, le-ltb}
use Rattle.windows.specs.Meanings.{Meaning}
use Rattle.windows.specs.Spans.{Span, Every}
use Rattle.law.specs.declared.calls.Answer.{Answer}
use Rattle.law.specs.declared.calls.Call.{Call}
use Rattle.law.specs.declared.calls.Refusal.{Refusal}
use Rattle.law.specs.declared.calls.Rule.{Rule}
use Rattle.law.specs.declared.calls.State.{State}
use Rattle.law.specs.Histories.{History, entry}
use Rattle.law.specs.Sheets.{Core, Model, named, named_by}
use Rattle.law.specs.Sound.{Fits, IsLine, FitRule, SoundCore}
use Rattle.law.specs.Steps.{Reached}
use Rattle.law.proofs.Sheets.{all_sound}
use Rattle.law.specs.Table.{checks, verdict, some_of, repeats, no_line, misnames}
use Rattle.stored.specs.declared.fault.LoadFault.{LoadFault}
use Rattle.stored.specs.declared.item.Item.{Item}
use Rattle.stored.specs.Records.{records, record_at, byte, read, write, head, low, high, number, is_head, ruling}
use Rattle.stored.specs.Loads.{Progress, progress, step, judged, on, walk, found, opened, bad_length, chain, start}
use Rattle.stored.specs.Chains.{Takes}
use Rattle.stored.specs.Stores.{line_item, items, items_of, next_index, chained, file, size, over, ComesBack}
use Rattle.stored.proofs.Walks.{walk_done, walk_on, loads_chain}
use Rattle.stored.proofs.Writes.{write_length, items_length}

-- The item's record reads back.
abbrev pub Faithful : Item → Type 0
Faithful x = (next : ℕ) → read (write x next) ≡ Some x

-- The next index, where items are still to come.
index_some : (i n : ℕ) → next_index i (suc n) ≡ i
index_some i n = ap (λ (b : Bool). cond b 0 i) (ne_eqb (suc n) 0 (λ z. omega arith))

-- The next index is a byte.
index_low : (i n : ℕ) → i < 256 → low (next_index i n) ≡ next_index i n
index_low i zero h = refl
index_low i (suc n) h = ap low (index_some i n) ∙ (let q : i % 256 ≡ i = omega arith in q) ∙ sym (index_some i n)

-- Byte 1 of a record that was written.
write_next : (x : Item) (next : ℕ) → byte (write x next) 1 ≡ low next
write_next (Item.Line lo hi) next = refl
write_next (Item.Rule r) next = refl

-- The record of the first of the items that follow P.
first_record : (P w rest : List ℕ) (i : ℕ) → length P ≡ 8 * i → length w ≡ 8 → record_at (P ++ (w ++ rest)) i ≡ w
first_record P w rest i p q = ap (take 8) (drop_at P (w ++ rest) (8 * i) p) ∙ take_at w rest 8 q

-- A record of the file that reads back is opened.
pub opens : (bytes : List ℕ) (left at : ℕ) (x : Item) → at < records bytes → read (record_at bytes at) ≡ Some x → opened bytes (suc left) at ≡ Ok x
opens bytes left at x h e =
    ap₂ (λ (b : Bool) (o : Option Item). cond b (Err (LoadFault.Chain at)) (found at o))
    (or_from (eqb (suc left) 0) (leb (records bytes) at) (ne_eqb (suc left) 0 (λ z. omega arith)) (lt-leb (records bytes) at h)) e

-- The walk over records that were chained takes their items.
pub walk_chained :
    {S : Type 0} (take : S → Item → Result S Refusal) (bytes : List ℕ) (xs : List Item) (i : ℕ) (P : List ℕ) (s t : S) →
    length P ≡ 8 * i → 0 < i → i + length xs < 256 → bytes ≡ P ++ chained i xs → records bytes ≡ i + length xs →
    Every Faithful xs → Takes take xs s t → walk take bytes (length xs) (next_index i (length xs)) s ≡ Ok t
unfolding chained
walk_chained take bytes [] i P s t p l few e n f q = walk_done take bytes 0 0 s refl ∙ ap Ok q
walk_chained take bytes (x ∷ xs) i P s t p l few e n f q =
    let w : List ℕ = write x (next_index (i + 1) (length xs)) in
    let rest : List ℕ = chained (i + 1) xs in
    let here : record_at bytes i ≡ w =
    ap (λ (bs : List ℕ). record_at bs i) e ∙ first_record P w rest i p (write_length x (next_index (i + 1) (length xs))) in
    let inside : i < records bytes = omega (arith, n) in
    let reads : read (record_at bytes i) ≡ Some x = ap read here ∙ f.0 (next_index (i + 1) (length xs)) in
    let some : (i ≡ 0 → ⊥) = λ z. omega arith in
    let small : i + 1 < 256 = omega arith in
    let follows : byte (record_at bytes i) 1 ≡ next_index (i + 1) (length xs) =
    ap (λ (r : List ℕ). byte r 1) here ∙ write_next x (next_index (i + 1) (length xs)) ∙ index_low (i + 1) (length xs) small in
    let one : suc (length xs) - 1 ≡ length xs = omega arith in
    let longer : length (P ++ w) ≡ 8 * (i + 1) =
    length-append P w ∙ (let z : length P + length w ≡ 8 * (i + 1) = omega (arith, p, write_length x (next_index (i + 1) (length xs))) in z) in
    let positive : 0 < i + 1 = omega arith in
    let fewer : i + 1 + length xs < 256 = omega arith in
    let count : records bytes ≡ i + 1 + length xs = n ∙ (let z : i + suc (length xs) ≡ i + 1 + length xs = omega arith in z) in
    ap (λ (at : ℕ). walk take bytes (suc (length xs)) at s) (index_some i (length xs))
    ∙ walk_on take bytes (suc (length xs)) i s x some (opens bytes (length xs) i x inside reads)
    ∙ ap (on i (λ u. walk take bytes (suc (length xs) - 1) (byte (record_at bytes i) 1) u)) q.1
    ∙ ap₂ (λ (left at : ℕ). walk take bytes left at q.0) one follows
    ∙ walk_chained take bytes xs (i + 1) (P ++ w) q.0 t longer positive fewer (e ∙ sym (append_assoc P w rest)) count f.1 q.2

-- Items taken one list after the other.
pub takes_both :
    {S : Type 0} (take : S → Item → Result S Refusal) (xs ys : List Item) (s t u : S) → Takes take xs s t → Takes take ys t u → Takes take (xs ++ ys) s u
takes_both take [] ys s t u p q = subst (λ z. Takes take ys z u) (sym p) q
takes_both take (x ∷ xs) ys s t u p q = (p.0, p.1, takes_both take xs ys p.0 t u p.2 q)

-- A sheet without tries.
abbrev pub plain : List Span → List Rule → Model
plain ws rs = record { core = record { state = State.Unsettled; windows = ws; rules = rs }; saved = [] }

-- A line that fits is accepted.
line_accepted : (m : Meaning) (id : ℕ) (ws : List Span) (rs : List Rule) (w : Span) → Fits m w → length ws < 64 → verdict m id (plain ws rs) (Call.Line w.lo w.hi) ≡ None
unfolding verdict checks
line_accepted m id ws rs w f l =
    ap₂ (λ (a b : Bool). cond a (Some Refusal.Ends) (cond b (Some Refusal.Full) None))
    (or_from (ltb w.hi w.lo) (ltb m.top w.hi) (le-ltb w.hi w.lo f.ordered) (le-ltb m.top w.hi f.up_to_top))
    (lt-leb 64 (length ws) l)

-- So lines that fit are taken.
pub take_lines :
    (m : Meaning) (id : ℕ) (vs ws : List Span) (h : History) → Every (Fits m) ws → length vs + length ws ≤ 64 →
    (g : History) × Takes (step m id) (map line_item ws) (progress h (plain vs [])) (progress g (plain (vs ++ ws) []))
take_lines m id vs [] h f l = (h, ap (λ (us : List Span). progress h (plain us [])) (sym (append-nil vs)))
take_lines m id vs (w ∷ ws) h f l =
    let room : length vs < 64 = omega arith in
    let more : History = entry (Call.Line w.lo w.hi) (Answer.Numbered (length vs + 1)) ∷ h in
    let fewer : length (vs ++ (w ∷ [])) + length ws ≤ 64 = simp length-append (omega arith) in
    let rest = take_lines m id (vs ++ (w ∷ [])) ws more f.1 fewer in (
      rest.0,
      (
        progress more (plain (vs ++ (w ∷ [])) []),
        ap (judged (progress h (plain vs [])) (line_item w)) (line_accepted m id vs [] w f.0 room),
        subst (λ (us : List Span). Takes (step m id) (map line_item ws) (progress more (plain (vs ++ (w ∷ [])) [])) (progress rest.0 (plain us []))) (append_assoc vs (w ∷ []) ws) rest.1,
      ),
    )

-- Lines that are there are none that are not.
all_there : (n : ℕ) (ks : List ℕ) → Every (IsLine n) ks → some_of (no_line n) ks ≡ false
all_there n [] e = refl
all_there n (k ∷ ks) e =
    or_from (no_line n k) (some_of (no_line n) ks)
    (or_from (eqb k 0) (ltb n k) (ne_eqb k 0 (λ z. omega (arith, e.0.above_zero))) (le-ltb n k e.0.there))
    (all_there n ks e.1)

-- A rule of two lines names no third.
no_third_line : (n c : ℕ) → (n ≡ 2 → c ≡ 0) → (eqb n 2 && not (eqb c 0)) ≡ false
no_third_line n c f =
    elim (cases_eq n 2) [
      | inl e ↦ and_right (eqb n 2) (not (eqb c 0)) (not_from_true (eqb c 0) (eq-eqb c 0 (f e)))
      | inr ne ↦ and_left (eqb n 2) (not (eqb c 0)) (ne_eqb n 2 ne)
    ]

-- A rule that fits is accepted.
rule_accepted : (m : Meaning) (id : ℕ) (ws : List Span) (rs : List Rule) (r : Rule) → FitRule m (length ws) r → length rs < 128 → verdict m id (plain ws rs) (Call.Rule r) ≡ None
unfolding verdict checks
rule_accepted m id ws rs r f l =
    cond-false (eqb (m.arity r.kind) 0) _ _ (ne_eqb (m.arity r.kind) 0 (λ z. omega (arith, f.kind_there)))
    ∙ cond-false (misnames (m.arity r.kind) (length ws) r) _ _
    (or_from (some_of (no_line (length ws)) (named m r)) (eqb (m.arity r.kind) 2 && not (eqb r.c 0))
    (all_there (length ws) (named m r) f.lines_there) (no_third_line (m.arity r.kind) r.c f.no_third))
    ∙ cond-false (repeats (named m r)) _ _ f.different
    ∙ cond-false (leb 128 (length rs)) _ _ (lt-leb 128 (length rs) l)

-- So rules that fit are taken.
pub take_rules :
    (m : Meaning) (id : ℕ) (ws : List Span) (qs rs : List Rule) (h : History) → Every (FitRule m (length ws)) rs → length qs + length rs ≤ 128 →
    (g : History) × Takes (step m id) (map Item.Rule rs) (progress h (plain ws qs)) (progress g (plain ws (qs ++ rs)))
take_rules m id ws qs [] h f l = (h, ap (λ (us : List Rule). progress h (plain ws us)) (sym (append-nil qs)))
take_rules m id ws qs (r ∷ rs) h f l =
    let room : length qs < 128 = omega arith in
    let more : History = entry (Call.Rule r) (Answer.Numbered (length qs + 1)) ∷ h in
    let fewer : length (qs ++ (r ∷ [])) + length rs ≤ 128 = simp length-append (omega arith) in
    let rest = take_rules m id ws (qs ++ (r ∷ [])) rs more f.1 fewer in (
      rest.0,
      (
        progress more (plain ws (qs ++ (r ∷ []))),
        ap (judged (progress h (plain ws qs)) (Item.Rule r)) (rule_accepted m id ws qs r f.0 room),
        subst (λ (us : List Rule). Takes (step m id) (map Item.Rule rs) (progress more (plain ws (qs ++ (r ∷ [])))) (progress rest.0 (plain ws us))) (append_assoc qs (r ∷ []) rs) rest.1,
      ),
    )

-- Two bytes hold a number up to 65535.
two_back : (n : ℕ) → n ≤ 65535 → number (low n) (high n) ≡ n
two_back n h = omega arith

-- One byte holds a number up to 255.
one_back : (n : ℕ) → n ≤ 255 → low n ≡ n
one_back n h = omega arith

-- The record of a line that fits reads back.
line_back : (m : Meaning) (w : Span) → m.top ≤ 65535 → Fits m w → Faithful (line_item w)
line_back m w small f next =
    let a : w.lo ≤ 65535 = omega (arith, f.ordered, f.up_to_top) in
    let b : w.hi ≤ 65535 = omega (arith, f.up_to_top) in
    ap₂ (λ (lo hi : ℕ). Some (Item.Line lo hi)) (two_back w.lo a) (two_back w.hi b)

-- The record of a rule of kinds 2 to 5.
read_rule : (kind a b c next : ℕ) → 2 ≤ kind → kind ≤ 5 → read (kind ∷ next ∷ a ∷ b ∷ c ∷ 0 ∷ 0 ∷ 0 ∷ []) ≡ Some (Item.Rule (ruling kind a b c))
read_rule kind a b c next l h =
    cond-false (eqb kind 1) _ _ (ne_eqb kind 1 (λ z. omega arith))
    ∙ cond-true (leb 2 kind && leb kind 5) _ _ (and_from (leb 2 kind) (leb kind 5) (le-leb 2 kind l) (le-leb kind 5 h))

-- The lines that a rule names are numbers of lines.
named_few : (n arity : ℕ) (r : Rule) → n ≤ 64 → ((arity ≡ 2) ⊎ (arity ≡ 3)) → Every (IsLine n) (named_by arity r) → (arity ≡ 2 → r.c ≡ 0) → (r.a ≤ 255) × (r.b ≤ 255) × (r.c ≤ 255)
named_few n arity r h (inl e) lines third =
    let q : Every (IsLine n) (named_by 2 r) = subst (λ (k : ℕ). Every (IsLine n) (named_by k r)) e lines in
    (omega (arith, q.0.there), omega (arith, q.1.0.there), omega (arith, third e))
named_few n arity r h (inr e) lines third =
    let q : Every (IsLine n) (named_by 3 r) = subst (λ (k : ℕ). Every (IsLine n) (named_by k r)) e lines in
    (omega (arith, q.0.there), omega (arith, q.1.0.there), omega (arith, q.1.1.0.there))

-- A kind that names lines names two or three.
two_or_three : (n : ℕ) → ((n ≡ 0) ⊎ ((n ≡ 2) ⊎ (n ≡ 3))) → 1 ≤ n → ((n ≡ 2) ⊎ (n ≡ 3))
two_or_three n (inl e) l = absurd (omega arith)
two_or_three n (inr q) l = q

-- The kinds of a book are out of 2 to 5.
abbrev pub KindsWithin : Meaning → Type 0
KindsWithin m = (k : ℕ) → (k < 2) ⊎ (5 < k) → m.arity k ≡ 0

-- So is the kind of a rule that fits.
kind_low : (m : Meaning) (k : ℕ) → KindsWithin m → 1 ≤ m.arity k → 2 ≤ k
kind_low m k within l = elim (cases_lt k 2) [ inl h ↦ let w : ⊥ = omega (arith, within k (inl h)) in absurd w | inr h ↦ h ]

kind_high : (m : Meaning) (k : ℕ) → KindsWithin m → 1 ≤ m.arity k → k ≤ 5
kind_high m k within l = elim (cases_lt 5 k) [ inl h ↦ let w : ⊥ = omega (arith, within k (inr h)) in absurd w | inr h ↦ h ]

-- The record of a rule that fits reads back.
rule_back : (m : Meaning) (n : ℕ) (r : Rule) → n ≤ 64 → KindsWithin m → FitRule m n r → Faithful (Item.Rule r)
rule_back m n r few within f next =
    let l : 2 ≤ r.kind = kind_low m r.kind within f.kind_there in
    let h : r.kind ≤ 5 = kind_high m r.kind within f.kind_there in
    let k : r.kind ≤ 255 = omega arith in
    let q = named_few n (m.arity r.kind) r few (two_or_three (m.arity r.kind) (m.counts r.kind) f.kind_there) f.lines_there f.no_third in
    (λ i. read (one_back r.kind k i ∷ low next ∷ one_back r.a q.0 i ∷ one_back r.b q.1 i ∷ one_back r.c q.2 i ∷ 0 ∷ 0 ∷ 0 ∷ []))
    ∙ read_rule r.kind r.a r.b r.c (low next) l h

-- Every item of a sound sheet reads back.
lines_back : (m : Meaning) (ws : List Span) → m.top ≤ 65535 → Every (Fits m) ws → Every Faithful (map line_item ws)
lines_back m [] small f = tt
lines_back m (w ∷ ws) small f = (line_back m w small f.0, lines_back m ws small f.1)

rules_back : (m : Meaning) (n : ℕ) (rs : List Rule) → n ≤ 64 → KindsWithin m → Every (FitRule m n) rs → Every Faithful (map Item.Rule rs)
rules_back m n [] few within f = tt
rules_back m n (r ∷ rs) few within f = (rule_back m n r few within f.0, rules_back m n rs few within f.1)

every_both : (P : Item → Type 0) (xs ys : List Item) → Every P xs → Every P ys → Every P (xs ++ ys)
every_both P [] ys p q = q
every_both P (x ∷ xs) ys p q = (p.0, every_both P xs ys p.1 q)

-- The length of the records, and of the file.
chained_length : (i : ℕ) (xs : List Item) → length (chained i xs) ≡ 8 * length xs
unfolding chained
chained_length i [] = refl
chained_length i (x ∷ xs) =
    length-append (write x (next_index (i + 1) (length xs))) (chained (i + 1) xs)
    ∙ (let z : length (write x (next_index (i + 1) (length xs))) + length (chained (i + 1) xs) ≡ 8 * suc (length xs) =
    omega (arith, write_length x (next_index (i + 1) (length xs)), chained_length (i + 1) xs) in z)

pub file_length : (drive mode : ℕ) (xs : List Item) → length (file drive mode xs) ≡ 8 * (1 + length xs)
unfolding file
file_length drive mode xs =
    length-append (head drive mode (next_index 1 (length xs))) (chained 1 xs)
    ∙ (let z : 8 + length (chained 1 xs) ≡ 8 * (1 + length xs) = omega (arith, chained_length 1 xs) in z)

-- A file of at most 255 records after the head has a good length.
length_good : (n : ℕ) → n ≤ 255 → bad_length (8 * (1 + n)) ≡ false
length_good n h =
    or_from (eqb (8 * (1 + n)) 0) (ltb 2048 (8 * (1 + n)) || not (eqb (8 * (1 + n) % 8) 0)) (ne_eqb (8 * (1 + n)) 0 (λ z. omega arith))
    (or_from (ltb 2048 (8 * (1 + n))) (not (eqb (8 * (1 + n) % 8) 0))
    (le-ltb 2048 (8 * (1 + n)) (let q : 8 * (1 + n) ≤ 2048 = omega arith in q))
    (not_from_true (eqb (8 * (1 + n) % 8) 0) (eq-eqb (8 * (1 + n) % 8) 0 (let q : 8 * (1 + n) % 8 ≡ 0 = omega arith in q))))

-- Its head is right.
head_good : (drive mode : ℕ) (xs : List Item) → is_head drive mode (record_at (file drive mode xs) 0) ≡ true
unfolding file
head_good drive mode xs = and_from (eqb drive drive) _ (eq-eqb drive drive refl) (and_from (eqb mode mode) _ (eq-eqb mode mode refl) refl)

-- The chain of a file whose items read back and are taken.
file_chain :
    (m : Meaning) (id drive mode : ℕ) (xs : List Item) (p : Progress) → length xs < 255 →
    Every Faithful xs → Takes (step m id) xs start p → chain m id (file drive mode xs) ≡ Ok p
unfolding file
file_chain m id drive mode xs p few f q =
    let H : List ℕ = head drive mode (next_index 1 (length xs)) in
    let count : records (H ++ chained 1 xs) ≡ 1 + length xs =
    ap (λ (n : ℕ). n / 8) (file_length drive mode xs) ∙ (let z : 8 * (1 + length xs) / 8 ≡ 1 + length xs = omega arith in z) in
    let left : records (H ++ chained 1 xs) - 1 ≡ length xs = omega (arith, count) in
    let less : 1 + length xs < 256 = omega arith in
    ap (λ (n : ℕ). walk (step m id) (H ++ chained 1 xs) n (next_index 1 (length xs)) start) left
    ∙ walk_chained (step m id) (H ++ chained 1 xs) xs 1 H start p refl (lit< tt) less refl count f q

-- A sound sheet comes back.
pub comes_back :
    (m : Meaning) (id drive mode : ℕ) (c : Core) → m.top ≤ 65535 → KindsWithin m → SoundCore m c → ComesBack m id drive mode c (file drive mode (items c))
comes_back m id drive mode c small within sound =
    let xs : List Item = items c in
    let count : length xs ≡ length c.windows + length c.rules = items_length c.windows c.rules in
    let few : length xs < 255 = omega (arith, count, sound.few_lines, sound.few_rules) in
    let fewer : length xs ≤ 255 = omega arith in
    let lines = take_lines m id [] c.windows [] sound.windows_fit (let z : 0 + length c.windows ≤ 64 = omega (arith, sound.few_lines) in z) in
    let rules = take_rules m id c.windows [] c.rules lines.0 sound.rules_fit (let z : 0 + length c.rules ≤ 128 = omega (arith, sound.few_rules) in z) in
    let p : Progress = progress rules.0 (plain c.windows c.rules) in
    let good : bad_length (length (file drive mode xs)) ≡ false = ap bad_length (file_length drive mode xs) ∙ length_good (length xs) fewer in
    let taken : Takes (step m id) xs start p =
    takes_both (step m id) (map line_item c.windows) (map Item.Rule c.rules) start (progress lines.0 (plain c.windows [])) p lines.1 rules.1 in
    let faithful : Every Faithful xs =
    every_both Faithful (map line_item c.windows) (map Item.Rule c.rules) (lines_back m c.windows small sound.windows_fit)
    (rules_back m (length c.windows) c.rules sound.few_lines within sound.rules_fit) in
    record {
      reached = p;
      loaded = loads_chain m id drive mode (file drive mode xs) good (head_good drive mode xs) ∙ file_chain m id drive mode xs p few faithful taken;
      same = refl;
    }

-- And so does what a buffer holds that its file was written over.
pub back_from :
    (m : Meaning) (id drive mode : ℕ) (c : Core) (old out : List ℕ) → m.top ≤ 65535 → KindsWithin m → SoundCore m c →
    out ≡ over (file drive mode (items c)) old → ComesBack m id drive mode c (take (size c) out)
back_from m id drive mode c old out small within sound e =
    let text : List ℕ = file drive mode (items c) in
    let long : length text ≡ size c = file_length drive mode (items c) ∙ ap (λ (n : ℕ). 8 * (1 + n)) (items_length c.windows c.rules) in
    subst (ComesBack m id drive mode c) (sym (ap (take (size c)) e ∙ take_at text (drop (length text) old) (size c) long)) (comes_back m id drive mode c small within sound)

-- So does the sheet that was written, whatever history led to it, by what its parts were read as.
pub written_back :
    (m : Meaning) (id number drive mode drive' mode' n : ℕ) (s : Model) (ws : List Span) (rs : List Rule) (old out : List ℕ) →
    m.top ≤ 65535 → KindsWithin m → drive' ≡ drive → mode' ≡ mode → ws ≡ s.core.windows → rs ≡ s.core.rules →
    out ≡ over (file drive' mode' (items_of ws rs)) old → n ≡ size s.core → (h : History) → Reached m id h s → ComesBack m number drive mode s.core (take n out)
written_back m id number drive mode drive' mode' n s ws rs old out small within same-drive same-mode same-windows same-rules written long h reached =
    subst (λ (k : ℕ). ComesBack m number drive mode s.core (take k out)) (sym long)
    (back_from m number drive mode s.core old out small within (all_sound reached).core_sound
    (written ∙ (λ i. over (file (same-drive i) (same-mode i) (items_of (same-windows i) (same-rules i))) old)))

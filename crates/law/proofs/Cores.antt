-- A core, held against what is in force: what every accepted line, rule, pinch and settle keeps.
-- Assumes what each lemma states.
use Rattle.std.proofs.Common.{◌≡◌, ℕ, zero, suc, ◌-◌, ◌<◌, ◌≤◌, List, [], ◌∷◌, ◌++◌, map, length, get_or, take, set, sym, refl, ap, ◌∙◌, subst, ap₂, suc-le-suc, zero-le, arith}
use Rattle.std.proofs.lemmas.List.{get_or_append_left, get_or-set_same}
use Rattle.windows.specs.Spans.{Span, Inside, nowhere, Every, Ordered, Within}
use Rattle.windows.specs.Choices.{EndsSupported}
use Rattle.windows.specs.Meanings.{Meaning}
use Rattle.windows.proofs.Spans.{within_refl, within_trans, within_length, within_at, within_set, set_within, every_map, every_left}
use Rattle.law.specs.declared.calls.State.{State}
use Rattle.law.specs.declared.calls.Rule.{Rule}
use Rattle.law.specs.declared.calls.Call.{Call}
use Rattle.law.specs.Sheets.{Core, empty, between, window, named, windows_of, cut}
use Rattle.law.specs.Runs.{Ending, standing, spent, barren, EndsWith}
use Rattle.law.specs.Steps.{lined, ruled, pinched, settled}
use Rattle.law.specs.Force.{lines_in, rules_in, windows_in, all_cut_by}
use Rattle.law.specs.Boxes.{Held, StandsWithin, NoneStands}
use Rattle.law.specs.Sound.{IsLine, FitRule, SoundCore}
use Rattle.law.proofs.Runs.{At, StandingAt, NamesOne, run_within, keeps, ends_standing}
use Rattle.law.proofs.Declared.{PinchesNamed, windows_in_length, windows_in_line, windows_in_rule, windows_in_pinch, rules_in_line, rules_in_rule, rules_in_pinch}

-- The core c fits what is in force, cs.
pub record Fitting (m : Meaning) (cs : List Call) (c : Core) : Type 0 where
  pub same_rules : c.rules ≡ rules_in cs
  pub within : Within c.windows (windows_in cs)
  pub greatest : (vs : List Span) → StandsWithin m (rules_in cs) (windows_in cs) vs → Within vs c.windows
  pub standing_held : c.state ≡ State.Standing → Every (Held m c.windows) c.rules
  pub barren_none : c.state ≡ State.Barren → NoneStands m cs
  pub pinches : PinchesNamed cs

-- The states differ.
unsettled_standing : {X : Type 0} → State.Unsettled ≡ State.Standing → X
unsettled_standing p = let z : ◌≡◌ {A = ℕ} 0 1 = cc in let w : ⊥ = omega arith in elim w [ ]

-- Unsettled is not barren.
unsettled_barren : {X : Type 0} → State.Unsettled ≡ State.Barren → X
unsettled_barren p = let z : ◌≡◌ {A = ℕ} 0 1 = cc in let w : ⊥ = omega arith in elim w [ ]

-- Standing is not barren.
standing_barren : {X : Type 0} → State.Standing ≡ State.Barren → X
standing_barren p = let z : ◌≡◌ {A = ℕ} 0 1 = cc in let w : ⊥ = omega arith in elim w [ ]

-- Barren is not standing.
barren_standing : {X : Type 0} → State.Barren ≡ State.Standing → X
barren_standing p = let z : ◌≡◌ {A = ℕ} 0 1 = cc in let w : ⊥ = omega arith in elim w [ ]

-- The empty core fits the empty history.
pub fitting_empty : (m : Meaning) → Fitting m [] empty.core
unfolding rules_in windows_in lines_in all_cut_by
fitting_empty m =
    record {
      same_rules = refl;
      within = tt;
      greatest = λ vs p. p.within;
      standing_held = λ p. unsettled_standing p;
      barren_none = λ p. unsettled_barren p;
      pinches = tt;
    }

-- Two boxes joined lie within two boxes joined.
within_append : (us ws us' ws' : List Span) → Within us ws → Within us' ws' → Within (us ++ us') (ws ++ ws')
within_append [] [] us' ws' p q = q
within_append [] (w ∷ ws) us' ws' p q = elim p [ ]
within_append (u ∷ us) [] us' ws' p q = elim p [ ]
within_append (u ∷ us) (w ∷ ws) us' ws' p q = (p.0, within_append us ws us' ws' p.1 q)

-- A box within one with a last window has a last window too.
record Split (vs ws : List Span) (w : Span) : Type 0 where
  front : List Span
  last : Span
  joined : vs ≡ front ++ (last ∷ [])
  front_within : Within front ws
  last_inside : Inside last w

-- A first window of each, with the rest so split.
split_front : (v w : Span) (vs ws : List Span) (x : Span) → Inside v w → Split vs ws x → Split (v ∷ vs) (w ∷ ws) x
split_front v w vs ws x p s =
    record {
      front = v ∷ s.front;
      last = s.last;
      joined = ap (λ us. v ∷ us) s.joined;
      front_within = (p, s.front_within);
      last_inside = s.last_inside;
    }

-- The last window split off.
split : (vs ws : List Span) (w : Span) → Within vs (ws ++ (w ∷ [])) → Split vs ws w
split [] [] w p = elim p [ ]
split [] (x ∷ ws) w p = elim p [ ]
split (v ∷ []) [] w p = record { front = []; last = v; joined = refl; front_within = tt; last_inside = p.0 }
split (v ∷ (u ∷ vs)) [] w p = elim p.1 [ ]
split (v ∷ vs) (x ∷ ws) w p = split_front v x vs ws w p.0 (split vs ws w p.1)

-- Rules whose lines are there do not see a line that comes after.
windows_before : (ks : List ℕ) (us vs : List Span) → Every (IsLine (length us)) ks → map (window (us ++ vs)) ks ≡ map (window us) ks
windows_before [] us vs p = refl
windows_before (k ∷ ks) us vs p =
    let l : k - 1 < length us = omega (arith, p.0) in
    ap₂ ◌∷◌ (get_or_append_left us vs nowhere (k - 1) l) (windows_before ks us vs p.1)

-- What a rule holds by is its own windows.
held_same : (m : Meaning) (us vs : List Span) (r : Rule) → windows_of m us r ≡ windows_of m vs r → Held m us r → Held m vs r
unfolding Held
held_same m us vs r e h =
    subst (λ (ws : List Span). (i : ℕ) → i < length ws → EndsSupported (m.related r.kind) ws i (get_or ws i nowhere)) e h

-- A rule whose lines are there holds without the lines that come after.
held_before : (m : Meaning) (us vs : List Span) (r : Rule) → FitRule m (length us) r → Held m (us ++ vs) r → Held m us r
held_before m us vs r f h = held_same m (us ++ vs) us r (windows_before (named m r) us vs f.lines_there) h

-- So do all rules.
all_held_before :
    (m : Meaning) (us vs : List Span) (rs : List Rule) → Every (FitRule m (length us)) rs → Every (Held m (us ++ vs)) rs → Every (Held m us) rs
all_held_before m us vs [] f h = tt
all_held_before m us vs (r ∷ rs) f h = (held_before m us vs r f.0 h.0, all_held_before m us vs rs f.1 h.1)

-- An accepted line keeps the core fitting.
pub fitting_line :
    (m : Meaning) (cs : List Call) (c : Core) (lo hi : ℕ) → SoundCore m c → Fitting m cs c → Fitting m (Call.Line lo hi ∷ cs) (lined c lo hi)
fitting_line m cs c lo hi sound f =
    let w = between lo hi in
    let ws = c.windows in
    let limits : windows_in (Call.Line lo hi ∷ cs) ≡ windows_in cs ++ (w ∷ []) = windows_in_line lo hi cs f.pinches in
    record {
      same_rules = f.same_rules ∙ sym (rules_in_line lo hi cs);
      within = subst (λ (us : List Span). Within (ws ++ (w ∷ [])) us) (sym limits)
          (within_append ws (windows_in cs) (w ∷ []) (w ∷ []) f.within (within_refl (w ∷ [])));
      greatest = λ vs p. line_greatest vs
          (subst (λ (rs : List Rule). Every (Held m vs) rs) (rules_in_line lo hi cs) p.stands)
          p.ordered
          (split vs (windows_in cs) w (subst (λ (us : List Span). Within vs us) limits p.within));
      standing_held = λ p. unsettled_standing p;
      barren_none = λ p. unsettled_barren p;
      pinches = f.pinches;
    }
  where
    line_greatest :
        (vs : List Span) → Every (Held m vs) (rules_in cs) → Every Ordered vs → Split vs (windows_in cs) (between lo hi) →
        Within vs (c.windows ++ (between lo hi ∷ []))
    line_greatest vs h o s =
        let us = s.front in
        let u = s.last in
        let size : length c.windows ≡ length us =
        within_length c.windows (windows_in cs) f.within ∙ sym (within_length us (windows_in cs) s.front_within) in
        let fits : Every (FitRule m (length us)) (rules_in cs) =
        subst (λ (n : ℕ). Every (FitRule m n) (rules_in cs)) size
        (subst (λ (rs : List Rule). Every (FitRule m (length c.windows)) rs) f.same_rules sound.rules_fit) in
        let o' : Every Ordered (us ++ (u ∷ [])) = subst (λ (xs : List Span). Every Ordered xs) s.joined o in
        let h' : Every (Held m (us ++ (u ∷ []))) (rules_in cs) = subst (λ (xs : List Span). Every (Held m xs) (rules_in cs)) s.joined h in
        let inner : Within us c.windows = f.greatest us (record {
          ordered = every_left Ordered us (u ∷ []) o';
          within = s.front_within;
          stands = all_held_before m us (u ∷ []) (rules_in cs) fits h';
        }) in
        subst (λ (xs : List Span). Within xs (c.windows ++ (between lo hi ∷ []))) (sym s.joined)
        (within_append us c.windows (u ∷ []) (between lo hi ∷ []) inner (s.last_inside, tt))

-- An accepted rule keeps the core fitting.
pub fitting_rule :
    (m : Meaning) (cs : List Call) (c : Core) (r : Rule) → Fitting m cs c → Fitting m (Call.Rule r ∷ cs) (ruled c r)
fitting_rule m cs c r f =
    record {
      same_rules = ap (λ rs. rs ++ (r ∷ [])) f.same_rules ∙ sym (rules_in_rule r cs);
      within = subst (λ (us : List Span). Within c.windows us) (sym (windows_in_rule r cs)) f.within;
      greatest = λ vs p. f.greatest vs (record {
        ordered = p.ordered;
        within = subst (λ (us : List Span). Within vs us) (windows_in_rule r cs) p.within;
        stands = every_left (Held m vs) (rules_in cs) (r ∷ []) (subst (λ (rs : List Rule). Every (Held m vs) rs) (rules_in_rule r cs) p.stands);
      });
      standing_held = λ p. unsettled_standing p;
      barren_none = λ p. unsettled_barren p;
      pinches = f.pinches;
    }

-- The same place written in two boxes.
set_both : (us ws : List Span) (i : ℕ) (v w : Span) → Within us ws → Inside v w → Within (set us i v) (set ws i w)
set_both [] [] i v w p q = tt
set_both [] (x ∷ ws) i v w p q = elim p [ ]
set_both (u ∷ us) [] i v w p q = elim p [ ]
set_both (u ∷ us) (x ∷ ws) zero v w p q = (q, p.1)
set_both (u ∷ us) (x ∷ ws) (suc i) v w p q = (p.0, set_both us ws i v w p.1 q)

-- A cut window lies inside the window.
cut_inside : (w : Span) (lo hi : ℕ) → Inside (cut w lo hi) w
cut_inside w lo hi = record { from = omega arith; to = omega arith }

-- Cutting both keeps one inside the other.
cut_both : (v w : Span) (lo hi : ℕ) → Inside v w → Inside (cut v lo hi) (cut w lo hi)
cut_both v w lo hi p = record { from = omega arith; to = omega arith }

-- What lies inside a cut window and inside another lies inside the other's cut.
cut_under : (u v w : Span) (lo hi : ℕ) → Inside u (cut w lo hi) → Inside u v → Inside u (cut v lo hi)
cut_under u v w lo hi p q = record { from = omega arith; to = omega arith }

-- An accepted pinch keeps the core fitting.
pub fitting_pinch :
    (m : Meaning) (cs : List Call) (c : Core) (k lo hi : ℕ) → Fitting m cs c → IsLine (length c.windows) k →
    Fitting m (Call.Pinch k lo hi ∷ cs) (pinched c k lo hi)
fitting_pinch m cs c k lo hi f there =
    let ws = c.windows in
    let w = window ws k in
    let limits : windows_in (Call.Pinch k lo hi ∷ cs) ≡ set (windows_in cs) (k - 1) (cut (window (windows_in cs) k) lo hi) =
    windows_in_pinch k lo hi cs there.above_zero in
    let same : length ws ≡ length (lines_in cs) = within_length ws (windows_in cs) f.within ∙ windows_in_length cs in
    record {
      same_rules = f.same_rules ∙ sym (rules_in_pinch k lo hi cs);
      within = subst (λ (us : List Span). Within (set ws (k - 1) (cut w lo hi)) us) (sym limits)
          (set_both ws (windows_in cs) (k - 1) (cut w lo hi) (cut (window (windows_in cs) k) lo hi) f.within
          (cut_both w (window (windows_in cs) k) lo hi (within_at ws (windows_in cs) (k - 1) f.within)));
      greatest = λ vs p. pinch_greatest vs
          (subst (λ (rs : List Rule). Every (Held m vs) rs) (rules_in_pinch k lo hi cs) p.stands)
          p.ordered
          (subst (λ (us : List Span). Within vs us) limits p.within);
      standing_held = λ p. unsettled_standing p;
      barren_none = λ p. unsettled_barren p;
      pinches = (omega arith, f.pinches);
    }
  where
    pinch_greatest :
        (vs : List Span) → Every (Held m vs) (rules_in cs) → Every Ordered vs →
        Within vs (set (windows_in cs) (k - 1) (cut (window (windows_in cs) k) lo hi)) →
        Within vs (set c.windows (k - 1) (cut (window c.windows k) lo hi))
    pinch_greatest vs h o p =
        let W = windows_in cs in
        let V = cut (window W k) lo hi in
        let size : length c.windows ≡ length W = within_length c.windows W f.within in
        let i : k - 1 < length W = omega arith in
        let inner : Within (set W (k - 1) V) W = set_within W W (k - 1) V (within_refl W) (cut_inside (window W k) lo hi) in
        let g : Within vs c.windows = f.greatest vs (record { ordered = o; within = within_trans vs (set W (k - 1) V) W p inner; stands = h }) in
        let here : Inside (get_or vs (k - 1) nowhere) V =
        subst (λ (v : Span). Inside (get_or vs (k - 1) nowhere) v) (get_or-set_same W (k - 1) V nowhere i) (within_at vs (set W (k - 1) V) (k - 1) p) in
        within_set vs c.windows (k - 1) (cut (window c.windows k) lo hi) g
        (cut_under (get_or vs (k - 1) nowhere) (window c.windows k) (window W k) lo hi here (within_at vs c.windows (k - 1) g))

-- A kind that names a line has a first one.
takes_one : {A : Type 0} (n : ℕ) (x : A) (xs : List A) → 1 ≤ n → 0 < length (take n (x ∷ xs))
takes_one zero x xs l = let z : ⊥ = omega arith in elim z [ ]
takes_one (suc n) x xs l = suc-le-suc zero-le

-- A rule that fits names a line.
names_one : (m : Meaning) (n : ℕ) (r : Rule) → FitRule m n r → NamesOne m r
names_one m n r f = takes_one (m.arity r.kind) r.a (r.b ∷ r.c ∷ []) f.kind_there

-- A core whose windows a run of settle made, from one that fits.
fitting_ended :
    (m : Meaning) (cs : List Call) (c : Core) (e : Ending) → Fitting m cs c →
    At (λ vs. Within vs (windows_in cs)) Unit e →
    ((us : List Span) → StandsWithin m (rules_in cs) (windows_in cs) us → At (Within us) ⊥ e) →
    StandingAt (λ vs. Every (Held m vs) c.rules) e →
    Fitting m cs (settled c e)
fitting_ended m cs c (standing n vs) f q g h =
    record {
      same_rules = f.same_rules;
      within = q;
      greatest = g;
      standing_held = λ s. h;
      barren_none = λ s. standing_barren s;
      pinches = f.pinches;
    }
fitting_ended m cs c (spent vs) f q g h =
    record {
      same_rules = f.same_rules;
      within = q;
      greatest = g;
      standing_held = λ s. unsettled_standing s;
      barren_none = λ s. unsettled_barren s;
      pinches = f.pinches;
    }
fitting_ended m cs c (barren k) f q g h =
    record {
      same_rules = f.same_rules;
      within = f.within;
      greatest = f.greatest;
      standing_held = λ s. barren_standing s;
      barren_none = λ s. g;
      pinches = f.pinches;
    }

-- An accepted settle keeps the core fitting.
pub fitting_settle :
    (m : Meaning) (cs : List Call) (c : Core) (n : ℕ) (e : Ending) → SoundCore m c → Fitting m cs c → EndsWith m c.rules n c.windows e →
    Fitting m cs (settled c e)
fitting_settle m cs c n e sound f run =
    fitting_ended m cs c e f
    (run_within (windows_in cs) run f.within)
    (λ us s. keeps us
    (subst (λ (rs : List Rule). Every (Held m us) rs) (sym f.same_rules) s.stands)
    (every_map (FitRule m (length c.windows)) (NamesOne m) (names_one m (length c.windows)) c.rules sound.rules_fit)
    run
    (f.greatest us s))
    (ends_standing run)

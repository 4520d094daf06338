-- Every call leaves a sound sheet sound.
-- Assumes what each lemma states.
use Rattle.std.proofs.Common.{◌≡◌, ℕ, ◌+◌, ◌-◌, ◌<◌, ◌≤◌, List, [], ◌∷◌, ◌++◌, length, get_or, drop, set, None, sym, subst, arith, length-append, length-drop, length-set}
use Rattle.windows.specs.Spans.{Span, Inside, nowhere, Every, Ordered, Within}
use Rattle.windows.specs.Meanings.{Meaning}
use Rattle.windows.proofs.Spans.{within_refl, within_length, every_at, every_map, every_append, every_set}
use Rattle.law.specs.declared.calls.State.{State}
use Rattle.law.specs.declared.calls.Rule.{Rule}
use Rattle.law.specs.declared.calls.Call.{Call}
use Rattle.law.specs.declared.calls.Answer.{Answer}
use Rattle.law.specs.Sheets.{Core, Model, empty, between, window, named, cut, most_lines, most_tries}
use Rattle.law.specs.Table.{verdict}
use Rattle.law.specs.Runs.{Ending, standing, spent, barren, EndsWith}
use Rattle.law.specs.Steps.{lined, ruled, pinched, settled, with_core, Does, Steps, refused, does}
use Rattle.law.specs.Sound.{Fits, IsLine, FitRule, SoundCore, Sound}
use Rattle.law.proofs.Runs.{At, run_within, run_ordered}
use Rattle.law.proofs.Verdicts.{LineTaken, RuleTaken, PinchTaken, line_taken, rule_taken, pinch_taken, open_taken}

-- More lines: a rule that fitted fits.
fit_rule_more : (m : Meaning) (n n' : ℕ) → n ≤ n' → (r : Rule) → FitRule m n r → FitRule m n' r
fit_rule_more m n n' l r f =
    let more : (k : ℕ) → IsLine n k → IsLine n' k = λ k p. record { above_zero = p.above_zero; there = omega arith } in
    record {
      kind_there = f.kind_there;
      lines_there = every_map (IsLine n) (IsLine n') more (named m r) f.lines_there;
      different = f.different;
      no_third = f.no_third;
    }

-- One more line, with its ends in order and up to the top.
sound_line : (m : Meaning) (s : Model) (lo hi : ℕ) → SoundCore m s.core → LineTaken m s lo hi → SoundCore m (lined s.core lo hi)
sound_line m s lo hi f t =
    let c = s.core in
    let w = between lo hi in
    let ws = c.windows in
    let n = length (ws ++ (w ∷ [])) in
    let size : n ≡ length ws + 1 = length-append ws (w ∷ []) in
    record {
      windows_fit = every_append (Fits m) ws (w ∷ []) f.windows_fit (record { ordered = t.ordered; up_to_top = t.up_to_top }, tt);
      rules_fit = every_map (FitRule m (length ws)) (FitRule m n) (fit_rule_more m (length ws) n (omega arith)) c.rules f.rules_fit;
      few_lines = omega arith;
      few_rules = f.few_rules;
    }

-- One more rule, that fits.
sound_rule : (m : Meaning) (s : Model) (r : Rule) → SoundCore m s.core → RuleTaken m s r → SoundCore m (ruled s.core r)
sound_rule m s r f t =
    let c = s.core in
    let size : length (c.rules ++ (r ∷ [])) ≡ length c.rules + 1 = length-append c.rules (r ∷ []) in
    record {
      windows_fit = f.windows_fit;
      rules_fit = every_append (FitRule m (length c.windows)) c.rules (r ∷ []) f.rules_fit (t.fits, tt);
      few_lines = f.few_lines;
      few_rules = omega arith;
    }

-- A window cut, and not emptied.
sound_pinch : (m : Meaning) (s : Model) (k lo hi : ℕ) → SoundCore m s.core → PinchTaken m s k lo hi → SoundCore m (pinched s.core k lo hi)
sound_pinch m s k lo hi f t =
    let c = s.core in
    let ws = c.windows in
    let w = window ws k in
    let there : IsLine (length ws) k = t.there in
    let i : k - 1 < length ws = omega arith in
    let fit : Fits m w = every_at (Fits m) ws (k - 1) nowhere f.windows_fit i in
    let size : length (set ws (k - 1) (cut w lo hi)) ≡ length ws = length-set ws (k - 1) (cut w lo hi) in
    record {
      windows_fit = every_set (Fits m) ws (k - 1) (cut w lo hi) f.windows_fit (record { ordered = t.leaves; up_to_top = omega arith });
      rules_fit = subst (λ (n : ℕ). Every (FitRule m n) c.rules) (sym size) f.rules_fit;
      few_lines = subst (λ (n : ℕ). n ≤ most_lines) (sym size) f.few_lines;
      few_rules = f.few_rules;
    }

-- Windows in order, within windows that fit, fit.
pub fits_within : (m : Meaning) (us ws : List Span) → Every Ordered us → Within us ws → Every (Fits m) ws → Every (Fits m) us
fits_within m [] ws o p q = tt
fits_within m (u ∷ us) [] o p q = elim p [ ]
fits_within m (u ∷ us) (w ∷ ws) o p q =
    let i : Inside u w = p.0 in
    let f : Fits m w = q.0 in
    (record { ordered = o.0; up_to_top = omega arith }, fits_within m us ws o.1 p.1 q.1)

-- Windows of a sound core have their ends in order.
pub sound_ordered : (m : Meaning) (c : Core) → SoundCore m c → Every Ordered c.windows
sound_ordered m c f = every_map (Fits m) Ordered (λ w p. p.ordered) c.windows f.windows_fit

-- Windows in order within those of a sound core are sound, with its rules.
sound_reached :
    (m : Meaning) (c : Core) (state : State) (us : List Span) → SoundCore m c → Every Ordered us → Within us c.windows →
    SoundCore m (record { state = state; windows = us; rules = c.rules })
sound_reached m c state us f o p =
    let size : length us ≡ length c.windows = within_length us c.windows p in
    record {
      windows_fit = fits_within m us c.windows o p f.windows_fit;
      rules_fit = subst (λ (n : ℕ). Every (FitRule m n) c.rules) (sym size) f.rules_fit;
      few_lines = subst (λ (n : ℕ). n ≤ most_lines) (sym size) f.few_lines;
      few_rules = f.few_rules;
    }

-- However a run ended.
sound_ended :
    (m : Meaning) (c : Core) (e : Ending) → SoundCore m c → At (Every Ordered) Unit e → At (λ vs. Within vs c.windows) Unit e →
    SoundCore m (settled c e)
sound_ended m c (standing n vs) f o p = sound_reached m c State.Standing vs f o p
sound_ended m c (spent vs) f o p = sound_reached m c State.Unsettled vs f o p
sound_ended m c (barren k) f o p = sound_reached m c State.Barren c.windows f (sound_ordered m c f) (within_refl c.windows)

-- The run of settle.
sound_settle : (m : Meaning) (c : Core) (n : ℕ) (e : Ending) → SoundCore m c → EndsWith m c.rules n c.windows e → SoundCore m (settled c e)
sound_settle m c n e f run =
    sound_ended m c e f (run_ordered run (sound_ordered m c f)) (run_within c.windows run (within_refl c.windows))

-- Another sound core on a sound sheet.
sound_with : (m : Meaning) (s : Model) (c : Core) → Sound m s → SoundCore m c → Sound m (with_core s c)
sound_with m s c f g = record { core_sound = g; saved_sound = f.saved_sound; few_tries = f.few_tries }

-- The first of some sound cores, or a sound core where there is none; and the rest.
sound_first : (m : Meaning) (cs : List Core) (c : Core) → Every (SoundCore m) cs → SoundCore m c → SoundCore m (get_or cs 0 c)
sound_first m [] c p f = f
sound_first m (d ∷ cs) c p f = p.0

sound_rest : (m : Meaning) (cs : List Core) → Every (SoundCore m) cs → Every (SoundCore m) (drop 1 cs)
sound_rest m [] p = tt
sound_rest m (d ∷ cs) p = p.1

-- Closing a try leaves no more open.
few_left : (cs : List Core) → length cs ≤ most_tries → length (drop 1 cs) ≤ most_tries
few_left cs l = simp length-drop (omega arith)

-- An accepted call leaves a sound sheet sound.
sound_does :
    (m : Meaning) (id : ℕ) (s : Model) (call : Call) (t : Model) (answer : Answer) → Sound m s → verdict m id s call ≡ None →
    Does m id s call t answer → Sound m t
sound_does m id s (Call.Line lo hi) t answer f v d =
    subst (Sound m) (sym d.0) (sound_with m s (lined s.core lo hi) f (sound_line m s lo hi f.core_sound (line_taken m id s lo hi v)))
sound_does m id s (Call.Rule r) t answer f v d =
    subst (Sound m) (sym d.0) (sound_with m s (ruled s.core r) f (sound_rule m s r f.core_sound (rule_taken m id s r v)))
sound_does m id s (Call.Pinch k lo hi) t answer f v d =
    subst (Sound m) (sym d.0)
    (sound_with m s (pinched s.core k lo hi) f (sound_pinch m s k lo hi f.core_sound (pinch_taken m id s k lo hi v)))
sound_does m id s (Call.Settle n) t answer f v d =
    subst (Sound m) (sym d.leaves)
    (sound_with m s (settled s.core d.ending) f (sound_settle m s.core n d.ending f.core_sound d.run))
sound_does m id s Call.Open t answer f v d =
    subst (Sound m) (sym d.0)
    (record { core_sound = f.core_sound; saved_sound = (f.core_sound, f.saved_sound); few_tries = open_taken m id s v })
sound_does m id s (Call.Keep number depth) t answer f v d =
    subst (Sound m) (sym d.0)
    (record { core_sound = f.core_sound; saved_sound = sound_rest m s.saved f.saved_sound; few_tries = few_left s.saved f.few_tries })
sound_does m id s (Call.Strike number depth) t answer f v d =
    subst (Sound m) (sym d.0)
    (record {
      core_sound = sound_first m s.saved s.core f.saved_sound f.core_sound;
      saved_sound = sound_rest m s.saved f.saved_sound;
      few_tries = few_left s.saved f.few_tries;
    })

-- Every call leaves a sound sheet sound.
pub sound_steps : (m : Meaning) (id : ℕ) (s : Model) (call : Call) (t : Model) (answer : Answer) → Sound m s → Steps m id s call t answer → Sound m t
sound_steps m id s call t answer f (refused why v q b) = subst (Sound m) (sym q) f
sound_steps m id s call t answer f (does v d) = sound_does m id s call t answer f v d

-- A sheet just set up is sound.
pub sound_empty : (m : Meaning) → Sound m empty
sound_empty m =
    record { core_sound = record { windows_fit = tt; rules_fit = tt; few_lines = omega arith; few_rules = omega arith }; saved_sound = tt; few_tries = omega arith }

-- The turns of a round: rules that are asleep are passed over, one that was tried goes to sleep.
-- Assumes nothing.
use Rattle.std.proofs.Common.{◌≡◌, ℕ, zero, suc, ◌+◌, ◌<◌, ◌≤◌, Bool, true, false, List, length, get_or, ltb, le_refl, sym, refl, subst, arith}
use Rattle.std.proofs.lemmas.Bool.{le-ltb, lt-ltb, ltb-false, ltb-true}
use Rattle.windows.specs.Spans.{Span}
use Rattle.windows.specs.Meanings.{Meaning}
use Rattle.law.specs.declared.calls.Rule.{Rule}
use Rattle.law.specs.Runs.{Ending, standing, spent, barren, Still, Run}
use Rattle.runs.specs.declared.rule_set.RuleSet.{RuleSet}
use Rattle.runs.specs.declared.wake.Agenda.{Agenda}
use Rattle.runs.specs.declared.run.Attempt.{Attempt}
use Rattle.runs.specs.Rounds.{Attempted, FitTry}
use Rattle.runs.specs.RuleSets.{has}
use Rattle.runs.specs.Wakes.{Calm, Woken, no_rule}
use Rattle.runs.proofs.Rounds.{Going, set_out, fit_try, on_still, on_narrowed, ends_barren, ends_spent, ends_quiet, goes_round}
use Rattle.runs.proofs.Wakes.{calm_kept, listed_moved, narrowed_still, quiet_moved, quiet_less}

module _ (m : Meaning) (rules : List Rule) (n c₀ : ℕ) (ws₀ : List Span) where
  -- The round stands before rule i + 1, and every rule that is asleep is still; it moved where it counts more than at its start.
  pub record At (i c : ℕ) (ws : List Span) (a : Agenda) : Type 0 where
    pub going : Going m rules n c₀ ws₀ i (ltb c₀ c) c ws
    pub calm : Calm m rules a ws

  -- the round begins
  pub at_first : (a : Agenda) → Calm m rules a ws₀ → At 0 c₀ ws₀ a
  at_first a calm = record {
    going = subst (λ (q : Bool). Going m rules n c₀ ws₀ 0 q c₀ ws₀) (sym (le-ltb c₀ c₀ (le_refl c₀))) (set_out m rules n c₀ ws₀ calm.ready);
    calm = calm;
  }

  module _ (i c : ℕ) (ws : List Span) (a : Agenda) (here : i < length rules) (at : At i c ws a) where
    -- a rule that is asleep is passed over
    pub at_asleep : has a.awake i ≡ false → At (i + 1) c ws a
    at_asleep h = record {
      going = on_still m rules n c₀ ws₀ i (ltb c₀ c) c ws here at.going (at.calm.quiet i here h);
      calm = at.calm;
    }

    -- The rule that is tried.
    abbrev r : Rule
    r = get_or rules i no_rule

    -- The try led to the windows vs, and woke rules.
    module _ (b : Agenda) (vs : List Span) (few : length ws ≤ 64) (woken : Woken a ws b vs) where
      -- it had no choice: the run ends with its number
      pub ends_none : (FitTry m ws r → Attempted m r (ltb c n) ws vs Attempt.NoChoice) → Calm m rules b vs × Run m rules n rules 1 false c₀ ws₀ (barren (i + 1))
      ends_none tried =
          let h = tried (fit_try m rules n c₀ ws₀ i (ltb c₀ c) c ws here at.going) in
          (calm_kept a b ws vs few woken m rules at.calm h.1, ends_barren m rules n c₀ ws₀ i (ltb c₀ c) c ws here at.going h.0)

      -- there was no room for its narrowing: the run ends spent
      pub ends_full : (FitTry m ws r → Attempted m r (ltb c n) ws vs Attempt.LeftUndone) → Calm m rules b vs × (Run m rules n rules 1 false c₀ ws₀ (spent vs) × (n ≡ n))
      ends_full tried =
          let h = tried (fit_try m rules n c₀ ws₀ i (ltb c₀ c) c ws here at.going) in (
            calm_kept a b ws vs few woken m rules at.calm h.2,
            (
              subst (λ (us : List Span). Run m rules n rules 1 false c₀ ws₀ (spent us)) (sym h.2)
                  (ends_spent m rules n c₀ ws₀ i (ltb c₀ c) c ws here at.going h.0 h.1 (ltb-false c n h.3)),
              refl,
            ),
          )

      -- it goes to sleep, for it is still on the windows that it left
      module _ (u : RuleSet) (less : (j : ℕ) → (j ≡ i → ⊥) → has u j ≡ has b.awake j) where
        asleep : (d : ℕ) → Going m rules n c₀ ws₀ (i + 1) (ltb c₀ d) d vs → Still m vs r → At (i + 1) d vs (record { naming = b.naming; awake = u })
        asleep d going still = record {
          going = going;
          calm = record {
            ready = going.ready;
            listed = listed_moved a b ws vs few woken rules at.calm.listed;
            quiet = quiet_less m rules vs i b.awake u (quiet_moved a b ws vs few woken m rules at.calm) still less;
          };
        }

        -- it closed nothing
        pub at_still : (FitTry m ws r → Attempted m r (ltb c n) ws vs Attempt.Still) → At (i + 1) c vs (record { naming = b.naming; awake = u })
        at_still tried =
            let h = tried (fit_try m rules n c₀ ws₀ i (ltb c₀ c) c ws here at.going) in
            asleep c (subst (Going m rules n c₀ ws₀ (i + 1) (ltb c₀ c) c) (sym h.1) (on_still m rules n c₀ ws₀ i (ltb c₀ c) c ws here at.going h.0))
            (subst (λ (xs : List Span). Still m xs r) (sym h.1) h.0)

        -- it narrowed
        pub at_narrowed : c₀ ≤ c → (FitTry m ws r → Attempted m r (ltb c n) ws vs Attempt.Narrowed) → At (i + 1) (c + 1) vs (record { naming = b.naming; awake = u })
        at_narrowed l tried =
            let fit = fit_try m rules n c₀ ws₀ i (ltb c₀ c) c ws here at.going in
            let h = tried fit in
            let going : Going m rules n c₀ ws₀ (i + 1) true (c + 1) vs =
            subst (Going m rules n c₀ ws₀ (i + 1) true (c + 1)) (sym h.2) (on_narrowed m rules n c₀ ws₀ i (ltb c₀ c) c ws here at.going h.0 h.1 (ltb-true c n h.3)) in
            asleep (c + 1) (subst (λ (q : Bool). Going m rules n c₀ ws₀ (i + 1) q (c + 1) vs) (sym (lt-ltb c₀ (c + 1) (omega arith))) going)
            (subst (λ (xs : List Span). Still m xs r) (sym h.2) (narrowed_still m ws r h.0 fit.rule_fits h.1))

  -- rules that are asleep are passed over, one after the other, up to rule k + 1
  pub at_awake : (d i k c : ℕ) (ws : List Span) (a : Agenda) → i + d ≡ k → k ≤ length rules → ((j : ℕ) → i ≤ j → j < k → has a.awake j ≡ false) → At i c ws a → At k c ws a
  at_awake zero i k c ws a e l asleep at = subst (λ (j : ℕ). At j c ws a) (omega arith) at
  at_awake (suc d) i k c ws a e l asleep at =
      at_awake d (i + 1) k c ws a (omega arith) l (λ j from to. asleep j (omega arith) to) (at_asleep i c ws a (omega arith) at (asleep i (omega arith) (omega arith)))

  -- all rules were tried or passed over
  module _ (i c : ℕ) (ws : List Span) (a : Agenda) (over : length rules ≤ i) (at : At i c ws a) where
    -- and none narrowed: the run ends standing
    pub ends_still : c ≡ c₀ → Calm m rules a ws × Run m rules n rules 1 false c₀ ws₀ (standing c ws)
    ends_still e =
        let going : Going m rules n c₀ ws₀ i false c ws = subst (λ (q : Bool). Going m rules n c₀ ws₀ i q c ws) (le-ltb c₀ c (omega arith)) at.going in
        (at.calm, ends_quiet m rules n c₀ ws₀ i c ws over going)

    -- and some did: another round follows
    pub ends_moved : c₀ < c → Calm m rules a ws × ((e : Ending) → Run m rules n rules 1 false c ws e → Run m rules n rules 1 false c₀ ws₀ e)
    ends_moved l =
        let going : Going m rules n c₀ ws₀ i true c ws = subst (λ (q : Bool). Going m rules n c₀ ws₀ i q c ws) (lt-ltb c₀ c l) at.going in
        (at.calm, goes_round m rules n c₀ ws₀ i c ws over going)

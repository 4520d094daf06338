-- What a round keeps true from rule to rule. Assumes nothing.
use Rattle.std.proofs.Common.{◌≡◌, ℕ, suc, ◌+◌, ◌<◌, ◌≤◌, Bool, true, false, List, ◌∷◌, length, get_or, drop, sym, refl, ap, subst, add-one}
use Rattle.std.proofs.lemmas.List.{drop_more, drop_all}
use Rattle.windows.specs.Spans.{Span, Every}
use Rattle.windows.specs.Meanings.{Meaning}
use Rattle.windows.proofs.Spans.{every_at}
use Rattle.law.specs.declared.calls.Rule.{Rule}
use Rattle.law.specs.Sheets.{named, put}
use Rattle.law.specs.Runs.{Ending, standing, spent, barren, HasNone, Still, Narrows, Run}
use Rattle.law.specs.Runs.Run.{none, still, narrows, too_many, next_round, quiet}
use Rattle.law.specs.Sound.{FitRule}
use Rattle.law.proofs.Endings.{Good, good_narrowed}
use Rattle.law.specs.declared.calls.Answer.{Answer}
use Rattle.runs.specs.declared.settled.Settled.{Settled}
use Rattle.runs.specs.Rounds.{Ended, Finished, FitTry, Ready}
use Rattle.runs.specs.Wakes.{no_rule}

module _ (m : Meaning) (rules : List Rule) (n : ℕ) where
  -- The round stands before rule i + 1, and what the run comes to from here is what it comes to from the round's start.
  pub record Going (c₀ : ℕ) (ws₀ : List Span) (i : ℕ) (moved : Bool) (c : ℕ) (ws : List Span) : Type 0 where
    pub ready : Ready m rules ws
    pub on : (e : Ending) → Run m rules n (drop i rules) (suc i) moved c ws e → Run m rules n rules 1 false c₀ ws₀ e

  module _ (c₀ : ℕ) (ws₀ : List Span) where
    -- a round begins
    pub set_out : Ready m rules ws₀ → Going c₀ ws₀ 0 false c₀ ws₀
    set_out r = record { ready = r; on = λ e h. h }

    module _ (i : ℕ) (moved : Bool) (c : ℕ) (ws : List Span) (here : i < length rules) where
      -- The rule that is tried.
      abbrev r : Rule
      r = get_or rules i no_rule

      -- the rules left begin with this one
      left : drop i rules ≡ r ∷ drop (i + 1) rules
      left = drop_more rules i no_rule here

      -- the rule and the windows are in order
      pub fit_try : Going c₀ ws₀ i moved c ws → FitTry m ws r
      fit_try g = record {
        fits = g.ready.fits;
        rule_fits = every_at (FitRule m (length ws)) rules i no_rule g.ready.rules_fit here;
      }

      -- what follows the try of this rule, told of the run
      onward : (q : Bool) (d : ℕ) (vs : List Span) (e : Ending) → Run m rules n (drop (i + 1) rules) (suc (i + 1)) q d vs e → Run m rules n (drop (i + 1) rules) (suc (suc i)) q d vs e
      onward q d vs e h = subst (λ (k : ℕ). Run m rules n (drop (i + 1) rules) (suc k) q d vs e) (add-one i) h

      -- the try of this rule, told of the run that is left
      tried : Going c₀ ws₀ i moved c ws → (e : Ending) → Run m rules n (r ∷ drop (i + 1) rules) (suc i) moved c ws e → Run m rules n rules 1 false c₀ ws₀ e
      tried g e h = g.on e (subst (λ (todo : List Rule). Run m rules n todo (suc i) moved c ws e) (sym left) h)

      -- the rule has no choice: the run ends with its number
      pub ends_barren : Going c₀ ws₀ i moved c ws → HasNone m ws r → Run m rules n rules 1 false c₀ ws₀ (barren (i + 1))
      ends_barren g h = subst (λ (k : ℕ). Run m rules n rules 1 false c₀ ws₀ (barren k)) (sym (add-one i)) (tried g (barren (suc i)) (none h))

      -- the rule closes nothing: on to the next
      pub on_still : Going c₀ ws₀ i moved c ws → Still m ws r → Going c₀ ws₀ (i + 1) moved c ws
      on_still g h = record { ready = g.ready; on = λ e k. tried g e (still h (onward moved c ws e k)) }

      -- a narrowing: on to the next, with the windows that it leaves
      pub on_narrowed : Going c₀ ws₀ i moved c ws → (us : List Span) → Narrows m ws r us → c < n → Going c₀ ws₀ (i + 1) true (c + 1) (put (named m r) us ws)
      on_narrowed g us h room =
          let good : Good m (length ws) (put (named m r) us ws) = good_narrowed m (length ws) ws us r (record { fits = g.ready.fits; sized = refl }) h in
          record {
            ready = record {
              fits = good.fits;
              rules_fit = subst (λ (k : ℕ). Every (FitRule m k) rules) (sym good.sized) g.ready.rules_fit;
            };
            on = λ e k.
                let next : Run m rules n (drop (i + 1) rules) (suc (suc i)) true (suc c) (put (named m r) us ws) e =
                subst (λ (d : ℕ). Run m rules n (drop (i + 1) rules) (suc (suc i)) true d (put (named m r) us ws) e) (add-one c) (onward true (c + 1) (put (named m r) us ws) e k) in
                tried g e (narrows h room next);
          }

      -- a narrowing for which there is no room: the run ends spent
      pub ends_spent : Going c₀ ws₀ i moved c ws → (us : List Span) → Narrows m ws r us → n ≤ c → Run m rules n rules 1 false c₀ ws₀ (spent ws)
      ends_spent g us h full = tried g (spent ws) (too_many h full)

    module _ (i c : ℕ) (ws : List Span) (over : length rules ≤ i) where
      -- a round without a narrowing: the run ends standing
      pub ends_quiet : Going c₀ ws₀ i false c ws → Run m rules n rules 1 false c₀ ws₀ (standing c ws)
      ends_quiet g = g.on (standing c ws) (subst (λ (todo : List Rule). Run m rules n todo (suc i) false c ws (standing c ws)) (sym (drop_all i rules over)) quiet)

      -- else another round follows
      pub goes_round : Going c₀ ws₀ i true c ws → (e : Ending) → Run m rules n rules 1 false c ws e → Run m rules n rules 1 false c₀ ws₀ e
      goes_round g e h = g.on e (subst (λ (todo : List Rule). Run m rules n todo (suc i) true c ws e) (sym (drop_all i rules over)) (next_round h))

-- A run that did not end barren leaves its windows.
pub finished_unless_barren : (m : Meaning) (rules : List Rule) (n : ℕ) (ws vs : List Span) (r : Settled) → ((k : ℕ) → r ≡ Settled.Barren k → ⊥) → Ended m rules n ws vs r → Finished m rules n ws vs r
finished_unless_barren m rules n ws vs (Settled.Standing c) other h = record { ending = standing c vs; ends = h; leaves = refl; says = refl }
finished_unless_barren m rules n ws vs (Settled.Spent k) other h = record { ending = spent vs; ends = h.0; leaves = refl; says = ap Answer.Spent h.1 }
finished_unless_barren m rules n ws vs (Settled.Barren k) other h = absurd (other k refl)

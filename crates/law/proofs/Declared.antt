-- The windows in force when one more line, rule or pinch is.
--   pinches named   each pinch names a line that was there before it
-- Assumes what each lemma states.
use Rattle.std.proofs.Common.{◌≡◌, ℕ, suc, ◌+◌, ◌-◌, ◌<◌, ◌≤◌, eqb, List, [], ◌∷◌, ◌++◌, length, get_or, set, sym, refl, ap, ◌∙◌, ap₂, inl, inr, arith, length-append}
use Rattle.std.proofs.lemmas.Bool.{eq-eqb, ne_eqb, cond-true, cond-false, cases_eq}
use Rattle.windows.specs.Spans.{Span, nowhere}
use Rattle.law.specs.declared.calls.Rule.{Rule}
use Rattle.law.specs.declared.calls.Call.{Call}
use Rattle.law.specs.Sheets.{between, window, cut}
use Rattle.law.specs.Force.{lines_in, rules_in, cut_by, all_cut_by, windows_in}

-- Each pinch among the calls names a line among those before it.
abbrev pub PinchesNamed : List Call → Type 0
PinchesNamed [] = Unit {0}
PinchesNamed (Call.Line lo hi ∷ cs) = PinchesNamed cs
PinchesNamed (Call.Rule r ∷ cs) = PinchesNamed cs
PinchesNamed (Call.Pinch k lo hi ∷ cs) = (k ≤ length (lines_in cs)) × PinchesNamed cs
PinchesNamed (Call.Settle a ∷ cs) = PinchesNamed cs
PinchesNamed (Call.Open ∷ cs) = PinchesNamed cs
PinchesNamed (Call.Keep number depth ∷ cs) = PinchesNamed cs
PinchesNamed (Call.Strike number depth ∷ cs) = PinchesNamed cs

-- A line past those among the calls has no pinch.
cut_by_past : (cs : List Call) (k : ℕ) (w : Span) → PinchesNamed cs → length (lines_in cs) < k → cut_by cs k w ≡ w
unfolding cut_by lines_in
cut_by_past [] k w p l = refl
cut_by_past (Call.Line lo hi ∷ cs) k w p l =
    let l' : length (lines_in cs) < k = omega (arith, length-append (lines_in cs) (between lo hi ∷ [])) in
    cut_by_past cs k w p l'
cut_by_past (Call.Rule r ∷ cs) k w p l = cut_by_past cs k w p l
cut_by_past (Call.Pinch j lo hi ∷ cs) k w p l =
    let j' : j ≤ length (lines_in cs) = p.0 in
    cond-false (eqb j k) (cut (cut_by cs k w) lo hi) (cut_by cs k w) (ne_eqb j k (λ e. omega arith)) ∙ cut_by_past cs k w p.1 l
cut_by_past (Call.Settle a ∷ cs) k w p l = cut_by_past cs k w p l
cut_by_past (Call.Open ∷ cs) k w p l = cut_by_past cs k w p l
cut_by_past (Call.Keep number depth ∷ cs) k w p l = cut_by_past cs k w p l
cut_by_past (Call.Strike number depth ∷ cs) k w p l = cut_by_past cs k w p l

-- A line among the calls cuts nothing.
all_cut_line : (lo hi : ℕ) (cs : List Call) (k : ℕ) (ws : List Span) → all_cut_by (Call.Line lo hi ∷ cs) k ws ≡ all_cut_by cs k ws
unfolding all_cut_by cut_by
all_cut_line lo hi cs k [] = refl
all_cut_line lo hi cs k (w ∷ ws) = ap (λ us. cut_by cs k w ∷ us) (all_cut_line lo hi cs (suc k) ws)

-- Nor does a rule.
all_cut_rule : (r : Rule) (cs : List Call) (k : ℕ) (ws : List Span) → all_cut_by (Call.Rule r ∷ cs) k ws ≡ all_cut_by cs k ws
unfolding all_cut_by cut_by
all_cut_rule r cs k [] = refl
all_cut_rule r cs k (w ∷ ws) = ap (λ us. cut_by cs k w ∷ us) (all_cut_rule r cs (suc k) ws)

-- Cutting keeps the count of windows.
all_cut_length : (cs : List Call) (k : ℕ) (ws : List Span) → length (all_cut_by cs k ws) ≡ length ws
unfolding all_cut_by
all_cut_length cs k [] = refl
all_cut_length cs k (w ∷ ws) = ap suc (all_cut_length cs (suc k) ws)

-- One more window, of a line with no pinch.
all_cut_push :
    (cs : List Call) (k : ℕ) (ws : List Span) (v : Span) → PinchesNamed cs → length (lines_in cs) < k + length ws →
    all_cut_by cs k (ws ++ (v ∷ [])) ≡ all_cut_by cs k ws ++ (v ∷ [])
unfolding all_cut_by
all_cut_push cs k [] v p l =
    let l' : length (lines_in cs) < k = omega arith in
    ap (λ u. u ∷ []) (cut_by_past cs k v p l')
all_cut_push cs k (w ∷ ws) v p l =
    let l' : length (lines_in cs) < suc k + length ws = omega arith in
    ap (λ us. cut_by cs k w ∷ us) (all_cut_push cs (suc k) ws v p l')

-- A pinch of a line that comes before leaves the windows.
all_cut_before :
    (j lo hi : ℕ) (cs : List Call) (k : ℕ) (ws : List Span) → j < k → all_cut_by (Call.Pinch j lo hi ∷ cs) k ws ≡ all_cut_by cs k ws
unfolding all_cut_by cut_by
all_cut_before j lo hi cs k [] l = refl
all_cut_before j lo hi cs k (w ∷ ws) l =
    ap₂ ◌∷◌ (cond-false (eqb j k) (cut (cut_by cs k w) lo hi) (cut_by cs k w) (ne_eqb j k (λ e. omega arith)))
    (all_cut_before j lo hi cs (suc k) ws (omega arith))

-- A pinch cuts the window of its line, and no other.
all_cut_pinch :
    (j lo hi : ℕ) (cs : List Call) (k : ℕ) (ws : List Span) → k ≤ j →
    all_cut_by (Call.Pinch j lo hi ∷ cs) k ws ≡ set (all_cut_by cs k ws) (j - k) (cut (get_or (all_cut_by cs k ws) (j - k) nowhere) lo hi)
unfolding all_cut_by cut_by
all_cut_pinch j lo hi cs k [] l = refl
all_cut_pinch j lo hi cs k (w ∷ ws) l =
    elim (cases_eq j k) [
      | inl e ↦
          let z : j - k ≡ 0 = omega arith in
          ap₂ ◌∷◌ (cond-true (eqb j k) (cut (cut_by cs k w) lo hi) (cut_by cs k w) (eq-eqb j k e)) (all_cut_before j lo hi cs (suc k) ws (omega arith))
          ∙ sym (ap (λ i. set (cut_by cs k w ∷ all_cut_by cs (suc k) ws) i (cut (get_or (cut_by cs k w ∷ all_cut_by cs (suc k) ws) i nowhere) lo hi)) z)
      | inr f ↦
          let m : suc k ≤ j = omega arith in
          let z : j - k ≡ suc (j - suc k) = omega arith in
          ap₂ ◌∷◌ (cond-false (eqb j k) (cut (cut_by cs k w) lo hi) (cut_by cs k w) (ne_eqb j k f)) (all_cut_pinch j lo hi cs (suc k) ws m)
          ∙ sym (ap (λ i. set (cut_by cs k w ∷ all_cut_by cs (suc k) ws) i (cut (get_or (cut_by cs k w ∷ all_cut_by cs (suc k) ws) i nowhere) lo hi)) z)
    ]

-- The windows in force are as many as the lines in force.
pub windows_in_length : (cs : List Call) → length (windows_in cs) ≡ length (lines_in cs)
unfolding windows_in
windows_in_length cs = all_cut_length cs 1 (lines_in cs)

-- The windows in force with one more line.
pub windows_in_line : (lo hi : ℕ) (cs : List Call) → PinchesNamed cs → windows_in (Call.Line lo hi ∷ cs) ≡ windows_in cs ++ (between lo hi ∷ [])
unfolding windows_in lines_in
windows_in_line lo hi cs p =
    all_cut_line lo hi cs 1 (lines_in cs ++ (between lo hi ∷ []))
    ∙ all_cut_push cs 1 (lines_in cs) (between lo hi) p (omega arith)

-- With one more rule.
pub windows_in_rule : (r : Rule) (cs : List Call) → windows_in (Call.Rule r ∷ cs) ≡ windows_in cs
unfolding windows_in lines_in
windows_in_rule r cs = all_cut_rule r cs 1 (lines_in cs)

-- With one more pinch.
pub windows_in_pinch :
    (j lo hi : ℕ) (cs : List Call) → 1 ≤ j →
    windows_in (Call.Pinch j lo hi ∷ cs) ≡ set (windows_in cs) (j - 1) (cut (window (windows_in cs) j) lo hi)
unfolding windows_in lines_in
windows_in_pinch j lo hi cs l = all_cut_pinch j lo hi cs 1 (lines_in cs) l

-- The rules in force with one more line, rule or pinch.
pub rules_in_line : (lo hi : ℕ) (cs : List Call) → rules_in (Call.Line lo hi ∷ cs) ≡ rules_in cs
unfolding rules_in
rules_in_line lo hi cs = refl

-- A rule comes last.
pub rules_in_rule : (r : Rule) (cs : List Call) → rules_in (Call.Rule r ∷ cs) ≡ rules_in cs ++ (r ∷ [])
unfolding rules_in
rules_in_rule r cs = refl

-- A pinch adds no rule.
pub rules_in_pinch : (j lo hi : ℕ) (cs : List Call) → rules_in (Call.Pinch j lo hi ∷ cs) ≡ rules_in cs
unfolding rules_in
rules_in_pinch j lo hi cs = refl

-- What a book's answer to the windows of a rule says of the rule's try. Assumes nothing.
use Rattle.books.specs.declared.narrowing.Unfit.{Unfit}
use Rattle.std.proofs.Common.{Err, ◌≡◌, ℕ, ◌<◌, ◌⊎◌, List, [], ◌∷◌, ◌++◌, map, length, sym, ap, ◌∙◌, subst, ap₂, subst₂, inl, inr, arith, take-append-drop}
use Rattle.std.proofs.lemmas.List.{take-map}
use Rattle.windows.specs.Spans.{Span, Every}
use Rattle.windows.specs.Choices.{NoChoice, Smallest}
use Rattle.windows.specs.Meanings.{Meaning}
use Rattle.boxes.specs.declared.triple.Triple.{Triple}
use Rattle.windows.specs.declared.window.Window.{Window}
use Rattle.books.specs.Narrowings.{Answered, Closes, Fit, UpTo, read, spans}
use Rattle.law.specs.declared.calls.Rule.{Rule}
use Rattle.law.specs.Sheets.{window, named, windows_of}
use Rattle.law.specs.Runs.{HasNone, Still, Narrows}
use Rattle.law.specs.Sound.{Fits, FitRule}
use Rattle.runs.specs.Rounds.{FitTry}
use Rattle.law.proofs.Endings.{windows_fit_at}

-- windows that fit have no end above the top
fit_up_to : (m : Meaning) (ws : List Span) → Every (Fits m) ws → UpTo m.top ws
fit_up_to m [] f = tt
fit_up_to m (w ∷ ws) f = (f.0.up_to_top, fit_up_to m ws f.1)

module _ (m : Meaning) (ws : List Span) (r : Rule) where
  -- The windows of all three numbers of the rule.
  abbrev pub three : List Span
  three = map (window ws) (r.a ∷ r.b ∷ r.c ∷ [])

  -- those that its kind reads are the windows of the lines that it names
  reads : read (m.arity r.kind) three ≡ windows_of m ws r
  reads = take-map (window ws) (m.arity r.kind) (r.a ∷ r.b ∷ r.c ∷ [])

  -- a rule that fits is never unfit
  pub never_unfit : Every (Fits m) ws → FitRule m (length ws) r → Fit m.top (m.arity r.kind) three
  never_unfit f g = record {
    known = g.kind_there;
    up_to = subst (UpTo m.top) (sym reads) (fit_up_to m (windows_of m ws r) (windows_fit_at m ws (named m r) f g.lines_there));
  }

  -- What the book answered to the windows, read as `before`.
  module _ (before : Triple Window) (is : spans before ≡ three) where
    pub not_unfit : (unfit : Unfit) → FitTry m ws r → Answered m.top (m.arity r.kind) (m.related r.kind) (spans before) (Err unfit) → ⊥
    not_unfit unfit f h = h (subst (Fit m.top (m.arity r.kind)) (sym is) (never_unfit f.fits f.rule_fits))

    pub none_is : NoChoice (m.related r.kind) (read (m.arity r.kind) (spans before)) → HasNone m ws r
    none_is h = subst (NoChoice (m.related r.kind)) (ap (read (m.arity r.kind)) is ∙ reads) h

    -- the smallest box is what the windows are already
    pub still_is : (t : Triple Window) → Closes (m.arity r.kind) (m.related r.kind) (spans before) (spans t) → spans t ≡ spans before → Still m ws r
    still_is t h e =
        subst₂ (Smallest (m.related r.kind)) (ap (read (m.arity r.kind)) is ∙ reads) (ap (read (m.arity r.kind)) (e ∙ is) ∙ reads) h.smallest

    -- it is not
    pub narrows_is : (t : Triple Window) → Closes (m.arity r.kind) (m.related r.kind) (spans before) (spans t) → (spans t ≡ spans before → ⊥) → Narrows m ws r (read (m.arity r.kind) (spans t))
    narrows_is t h other = record {
      smallest = subst (λ (us : List Span). Smallest (m.related r.kind) us (read (m.arity r.kind) (spans t))) (ap (read (m.arity r.kind)) is ∙ reads) h.smallest;
      other = λ e. other
          (sym (take-append-drop (m.arity r.kind) (spans t))
          ∙ ap₂ ◌++◌ (e ∙ sym (ap (read (m.arity r.kind)) is ∙ reads)) h.kept
          ∙ take-append-drop (m.arity r.kind) (spans before));
    }

-- a kind that is known names two or three lines
pub two_or_three : (n : ℕ) → (n ≡ 0) ⊎ ((n ≡ 2) ⊎ (n ≡ 3)) → 0 < n → (n ≡ 2) ⊎ (n ≡ 3)
two_or_three n c h = elim c [ inl z ↦ (let no_way : ⊥ = omega arith in absurd no_way) | inr k ↦ k ]

-- Satisfying choices in smaller and larger windows, and the smallest box.
-- Assumes nothing.
use Rattle.std.proofs.Common.{◌≡◌, ℕ, ◌<◌, List, length, get_or, sym, ◌∙◌, subst, arith}
use Rattle.windows.specs.Spans.{Span, In, Each, Every, Within, Ordered, nowhere}
use Rattle.windows.specs.Choices.{Choice, NoChoice, Supported, EndsSupported, Smallest}
use Rattle.windows.proofs.Spans.{within_from, within_length, within_antisym, each_within, each_at, every_from}

-- A choice in a box is a choice in what the box lies within.
pub choice_within : (R : List ℕ → Type 0) (us ws : List Span) (xs : List ℕ) → Within us ws → Choice R us xs → Choice R ws xs
choice_within R us ws xs p c = record { each = each_within us ws xs p c.each; related = c.related }

pub supported_within : (R : List ℕ → Type 0) (us ws : List Span) (i x : ℕ) → Within us ws → Supported R us i x → Supported R ws i x
supported_within R us ws i x p s = record { codes = s.codes; choice = choice_within R us ws s.codes p s.choice; here = s.here }

pub ends_within : (R : List ℕ → Type 0) (us ws : List Span) (i : ℕ) (w : Span) → Within us ws → EndsSupported R us i w → EndsSupported R ws i w
ends_within R us ws i w p s =
    record { lower = supported_within R us ws i w.lo p s.lower; upper = supported_within R us ws i w.hi p s.upper }

-- A supported code lies in a window that holds every choice.
supported_in :
    (R : List ℕ → Type 0) (ws vs : List Span) (i x : ℕ) → ((xs : List ℕ) → Choice R ws xs → Each vs xs) → i < length vs →
    Supported R ws i x → In (get_or vs i nowhere) x
supported_in R ws vs i x f h s = subst (λ (y : ℕ). In (get_or vs i nowhere) y) s.here (each_at vs s.codes i (f s.codes s.choice) h)

-- A box whose ends are all supported lies within every box that holds every choice.
pub ends_hold :
    (R : List ℕ → Type 0) (ws us vs : List Span) → length us ≡ length vs →
    ((i : ℕ) → i < length us → EndsSupported R ws i (get_or us i nowhere)) →
    ((xs : List ℕ) → Choice R ws xs → Each vs xs) → Within us vs
ends_hold R ws us vs e s f =
    within_from us vs e (λ i h.
    let h' : i < length vs = omega arith in
    let low : In (get_or vs i nowhere) (get_or us i nowhere).lo = supported_in R ws vs i (get_or us i nowhere).lo f h' (s i h).lower in
    let high : In (get_or vs i nowhere) (get_or us i nowhere).hi = supported_in R ws vs i (get_or us i nowhere).hi f h' (s i h).upper in
    record { from = low.from; to = high.to })

-- The smallest box lies within the windows.
pub smallest_within : (R : List ℕ → Type 0) (ws vs : List Span) → Smallest R ws vs → Within vs ws
smallest_within R ws vs s = ends_hold R ws vs ws s.same s.ends (λ xs c. c.each)

-- There is one smallest box.
pub smallest_unique : (R : List ℕ → Type 0) (ws us vs : List Span) → Smallest R ws us → Smallest R ws vs → us ≡ vs
smallest_unique R ws us vs s t =
    within_antisym us vs
    (ends_hold R ws us vs (s.same ∙ sym t.same) s.ends t.holds)
    (ends_hold R ws vs us (t.same ∙ sym s.same) t.ends s.holds)

-- A box within the windows whose ends all have a choice in the box lies within the smallest box.
pub held_within :
    (R : List ℕ → Type 0) (us ws vs : List Span) → Within us ws → Smallest R ws vs →
    ((i : ℕ) → i < length us → EndsSupported R us i (get_or us i nowhere)) → Within us vs
held_within R us ws vs p s h =
    ends_hold R ws us vs (within_length us ws p ∙ sym s.same) (λ i l. ends_within R us ws i (get_or us i nowhere) p (h i l)) s.holds

-- The windows of the smallest box have their ends in order.
pub smallest_ordered : (R : List ℕ → Type 0) (ws vs : List Span) → Smallest R ws vs → Every Ordered vs
smallest_ordered R ws vs s =
    every_from Ordered vs nowhere (λ i h.
    let c : In (get_or vs i nowhere) (get_or s.codes i 0) = each_at vs s.codes i (s.holds s.codes s.some) h in
    omega arith)

-- Where there is no choice there is no smallest box.
pub smallest_some : (R : List ℕ → Type 0) (ws vs : List Span) → Smallest R ws vs → NoChoice R ws → ⊥
smallest_some R ws vs s f = f s.codes s.some

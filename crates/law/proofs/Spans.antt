-- Lists of windows: one within another, a window written into a list, and codes out of them.
--   within   as many windows, each inside the one at its place
--   put      windows written back to the lines of the given numbers
-- Assumes nothing.
use Rattle.std.proofs.Common.{ℕ, ◌-◌, List, [], ◌∷◌, map, set}
use Rattle.windows.specs.Spans.{Span, Every, Within}
use Rattle.windows.proofs.Spans.{every_set, set_within, within_at, within_set}
use Rattle.law.specs.Sheets.{window, put}

-- The same, for windows written back to several lines.
pub within_put : (ks : List ℕ) (vs us ws : List Span) → Within us ws → Within (map (window us) ks) vs → Within us (put ks vs ws)
within_put [] vs us ws p q = p
within_put (k ∷ ks) [] us ws p q = p
within_put (k ∷ ks) (v ∷ vs) us ws p q = within_put ks vs us (set ws (k - 1) v) (within_set us ws (k - 1) v p q.0) q.1

-- And into the smaller box.
pub put_within : (ks : List ℕ) (vs us ws : List Span) → Within us ws → Within vs (map (window ws) ks) → Within (put ks vs us) ws
put_within [] vs us ws p q = p
put_within (k ∷ ks) [] us ws p q = p
put_within (k ∷ ks) (v ∷ vs) us ws p q = put_within ks vs (set us (k - 1) v) ws (set_within us ws (k - 1) v p q.0) q.1

-- The windows of the same lines in two boxes, one within the other.
pub map_within : (ks : List ℕ) (us ws : List Span) → Within us ws → Within (map (window us) ks) (map (window ws) ks)
map_within [] us ws p = tt
map_within (k ∷ ks) us ws p = (within_at us ws (k - 1) p, map_within ks us ws p)

-- Of windows written back.
pub every_put : (P : Span → Type 0) (ks : List ℕ) (vs ws : List Span) → Every P ws → Every P vs → Every P (put ks vs ws)
every_put P [] vs ws p q = p
every_put P (k ∷ ks) [] ws p q = p
every_put P (k ∷ ks) (v ∷ vs) ws p q = every_put P ks vs (set ws (k - 1) v) (every_set P ws (k - 1) v p q.0) q.1

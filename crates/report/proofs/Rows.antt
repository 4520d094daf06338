-- Lengths of lines, and lines one after the other.
use Rattle.std.proofs.Common.{◌≡◌, ℕ, suc, ◌+◌, ◌<◌, ◌≤◌, ◌&&◌, true, leb, List, [], ◌∷◌, ◌++◌, map, length, get_or, take, sym, ap, ◌∙◌, arith}
use Rattle.std.specs.List.{list_all}
use Rattle.std.proofs.lemmas.Bool.{and_parts, leb-true}
use Rattle.std.proofs.lemmas.List.Folds.{list_all-map}
use Rattle.std.proofs.lemmas.List.Sums.{AllPass-from_list_all}
use Rattle.std.proofs.lemmas.List.{append_assoc, append-nil, length-map, length-take, map-append, take_more}
use Rattle.windows.specs.Spans.{Span}
use Rattle.windows.specs.Windows.{span}
use Rattle.windows.specs.declared.window.Window.{Window}
use Rattle.report.specs.Report.{printable, rows, window_row}

-- One more line.
rows_push : (k : ℕ) (ws : List Span) (w : Span) → rows k (ws ++ (w ∷ [])) ≡ rows k ws ++ window_row (k + length ws) w
unfolding rows
rows_push k [] w = append-nil (window_row k w) ∙ ap (λ (n : ℕ). window_row n w) (omega arith)
rows_push k (v ∷ ws) w =
    let n : k + 1 + length ws ≡ k + suc (length ws) = omega arith in
    ap (λ (l : List ℕ). window_row k v ++ l) (rows_push (k + 1) ws w ∙ ap (λ (n : ℕ). rows (k + 1) ws ++ window_row n w) n)
    ∙ sym (append_assoc (window_row k v) (rows (k + 1) ws) (window_row (k + suc (length ws)) w))

-- The line of the window at i, after those before it.
pub rows_more :
    (ws : List Window) (i : ℕ) (d : Window) → i < length ws →
    rows 1 (map span (take (i + 1) ws)) ≡ rows 1 (map span (take i ws)) ++ window_row (i + 1) (span (get_or ws i d))
rows_more ws i d lt =
    let size : 1 + length (map span (take i ws)) ≡ i + 1 = simp (length-map, length-take) (omega arith) in
    ap (λ (l : List Window). rows 1 (map span l)) (take_more ws i d lt)
    ∙ ap (rows 1) (map-append span (take i ws) (get_or ws i d ∷ []))
    ∙ rows_push 1 (map span (take i ws)) (span (get_or ws i d))
    ∙ ap (λ (n : ℕ). rows 1 (map span (take i ws)) ++ window_row n (span (get_or ws i d))) size

-- Whether windows can be printed, told of the windows themselves.
pub printable_windows : (ws : List Window) → printable (map span ws) ≡ (leb (length ws) 64 && list_all (λ w. leb w.hi 65535) ws)
printable_windows ws = simp (list_all-map, length-map)

-- No end of printable windows is above 65,535.
pub printable_at : (ws : List Window) (i : ℕ) (d : Window) → i < length ws → printable (map span ws) ≡ true → (get_or ws i d).hi ≤ 65535
printable_at ws i d lt all =
    let both = and_parts (leb (length ws) 64) (list_all (λ w. leb w.hi 65535) ws) (sym (printable_windows ws) ∙ all) in
    leb-true (get_or ws i d).hi 65535 (AllPass-from_list_all (λ w. leb w.hi 65535) ws both.1 i d lt)

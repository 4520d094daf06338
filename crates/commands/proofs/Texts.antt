-- Lines and bytes, one after the other.
use Rattle.std.proofs.Common.{◌≡◌, ℕ, zero, suc, ◌+◌, ◌<◌, List, [], ◌∷◌, ◌++◌, map, length, get_or, take, ap, sym, ◌∙◌, append_assoc, add-one, arith}
use Rattle.std.proofs.lemmas.List.{append-nil, flat_map_more, take_more}
use Rattle.windows.specs.Windows.{span}
use Rattle.windows.specs.declared.window.Window.{Window}
use Rattle.commands.specs.Prints.{hex_text, pair_of, row, rows}

-- One more window.
pub rows_more : (ws : List Window) (i k n : ℕ) (w : Window) → i < length ws → n ≡ k + i → w ≡ get_or ws i w
    → rows k (map span (take i ws)) ++ row n (span w) ≡ rows k (map span (take (i + 1) ws))
unfolding rows
rows_more [] i k n w h e f = absurd (omega arith)
rows_more (v ∷ vs) zero k n w h e f =
    let same : n ≡ k = omega arith in ap (λ (u : Window). row n (span u)) f ∙ ap (λ (m : ℕ). row m (span v)) same ∙ sym (append-nil (row k (span v)))
rows_more (v ∷ vs) (suc i) k n w h e f =
    rw (add-one (suc i), append_assoc (row k (span v)) (rows (k + 1) (map span (take i vs))) (row n (span w)))
    (ap (λ (l : List ℕ). row k (span v) ++ l) (rows_more vs i (k + 1) n w (omega arith) (omega arith) f ∙ rw (add-one i)))

-- One more byte.
pub hex_more : (ds : List ℕ) (i : ℕ) → i < length ds → hex_text (take i ds) ++ pair_of (get_or ds i 0) ≡ hex_text (take (i + 1) ds)
hex_more ds i h = flat_map_more pair_of [] (take i ds) (get_or ds i 0) ∙ ap hex_text (sym (take_more ds i 0 h))

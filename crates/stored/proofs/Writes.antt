-- How the file comes into the buffer, record by record. Assumes nothing.
use Rattle.std.proofs.Common.{◌≡◌, ℕ, ◌+◌, ◌-◌, ◌*◌, ◌<◌, ◌≤◌, List, ◌++◌, map, length, get_or, take, drop, sym, refl, ap, ◌∙◌, subst, ap₂, arith}
use Rattle.std.proofs.lemmas.List.{append-nil, append_assoc, length-append, length-map, length-drop, take_at, drop_at, drop-drop, drop_all, drop_more, get_or_append_left, get_or-append_right, get_or-map}
use Rattle.windows.specs.Spans.{Span, nowhere}
use Rattle.windows.specs.Windows.{span}
use Rattle.windows.specs.declared.window.Window.{Window}
use Rattle.law.specs.declared.calls.Rule.{Rule}
use Rattle.stored.specs.declared.item.Item.{Item}
use Rattle.stored.specs.Records.{head, write}
use Rattle.stored.specs.Stores.{line_item, items_of, next_index, chained, file, over, put_at, nothing}

-- A record has eight bytes.
pub write_length : (x : Item) (next : ℕ) → length (write x next) ≡ 8
write_length (Item.Line lo hi) next = refl
write_length (Item.Rule r) next = refl

-- There is an item for each window and each rule.
pub items_length : (ws : List Span) (rs : List Rule) → length (items_of ws rs) ≡ length ws + length rs
items_length ws rs =
    length-append (map line_item ws) (map Item.Rule rs) ∙ ap₂ (λ (a b : ℕ). a + b) (length-map ws line_item) (length-map rs Item.Rule)

pub items_count : (ws : List Window) (rs : List Rule) → length ws + length rs ≡ length (items_of (map span ws) rs)
items_count ws rs = sym (items_length (map span ws) rs ∙ ap (λ (n : ℕ). n + length rs) (length-map ws span))

-- The item of a line, and that of a rule.
pub item_line :
    (ws : List Window) (rs : List Rule) (k : ℕ) (w : Window) → k < length ws → w ≡ get_or ws k w →
    line_item (span w) ≡ get_or (items_of (map span ws) rs) k nothing
item_line ws rs k w l e =
    let l₁ : k < length (map span ws) = simp length-map (omega arith) in
    let l₂ : k < length (map line_item (map span ws)) = simp length-map (omega arith) in
    ap (λ (v : Window). line_item (span v)) e
    ∙ sym (ap line_item (get_or-map span ws k w nowhere l))
    ∙ sym (get_or-map line_item (map span ws) k nowhere nothing l₁)
    ∙ sym (get_or_append_left (map line_item (map span ws)) (map Item.Rule rs) nothing k l₂)

pub item_rule :
    (ws : List Window) (rs : List Rule) (k : ℕ) (d : Rule) → k < length rs →
    Item.Rule (get_or rs k d) ≡ get_or (items_of (map span ws) rs) (length ws + k) nothing
item_rule ws rs k d l =
    let n : length (map line_item (map span ws)) ≡ length ws = simp length-map in
    let after : length ws ≤ length ws + k = omega arith in
    let back : length ws + k - length ws ≡ k = omega arith in
    sym (get_or-append_right (map line_item (map span ws)) (map Item.Rule rs) (length ws) (length ws + k) nothing n after
    ∙ ap (λ (i : ℕ). get_or (map Item.Rule rs) i nothing) back
    ∙ get_or-map Item.Rule rs k d nothing l)

-- So far k items are written into the buffer, after the head; the rest of it is as it was.
pub record Put (drive mode : ℕ) (xs : List Item) (old out : List ℕ) (k : ℕ) : Type 0 where
  pub done : List ℕ
  pub size : length done ≡ 8 * (k + 1)
  pub here : out ≡ done ++ drop (8 * (k + 1)) old
  pub rest : done ++ chained (k + 1) (drop k xs) ≡ file drive mode xs

-- None yet.
pub put_none :
    (drive mode first count : ℕ) (xs : List Item) (old out : List ℕ) → count ≡ length xs → first ≡ next_index 1 count →
    out ≡ put_at 0 (head drive mode first) old → Put drive mode xs old out 0
unfolding file
put_none drive mode first count xs old out n f e = record {
  done = head drive mode first;
  size = refl;
  here = e;
  rest = ap (λ (i : ℕ). head drive mode i ++ chained 1 xs) (f ∙ ap (next_index 1) n);
}

-- One more.
pub put_next :
    (drive mode count : ℕ) (xs : List Item) (old out new : List ℕ) (k more : ℕ) (x : Item) → count ≡ length xs → k < length xs → more ≡ k + 1 →
    x ≡ get_or xs k nothing → new ≡ put_at (8 * (k + 1)) (write x (next_index (k + 2) (count - (k + 1)))) out →
    Put drive mode xs old out k → Put drive mode xs old new more
unfolding chained
put_next drive mode count xs old out new k more x n l m f e p =
    let P : List ℕ = p.done in
    let a : ℕ = 8 * (k + 1) in
    let w : List ℕ = write x (next_index (k + 2) (count - (k + 1))) in
    let size-w : length w ≡ 8 = write_length x (next_index (k + 2) (count - (k + 1))) in
    let before : take a out ≡ P = ap (take a) p.here ∙ take_at P (drop a old) a p.size in
    let next-a : a + 8 ≡ 8 * (k + 1 + 1) = omega arith in
    let after : drop (a + 8) out ≡ drop (8 * (k + 1 + 1)) old =
    sym (drop-drop 8 a out) ∙ ap (λ (ys : List ℕ). drop 8 (drop a ys)) p.here ∙ ap (drop 8) (drop_at P (drop a old) a p.size) ∙ drop-drop 8 a old ∙ ap (λ (i : ℕ). drop i old) next-a in
    let index : next_index (k + 2) (count - (k + 1)) ≡ next_index (k + 1 + 1) (length (drop (k + 1) xs)) =
    ap₂ next_index (let q : k + 2 ≡ k + 1 + 1 = omega arith in q) (ap (λ (i : ℕ). i - (k + 1)) n ∙ sym (length-drop (k + 1) xs)) in
    subst (Put drive mode xs old new) (sym m) record {
      done = P ++ w;
      size = length-append P w ∙ (let q : length P + length w ≡ 8 * (k + 1 + 1) = omega (arith, p.size) in q);
      here = e ∙ ap₂ (λ (u v : List ℕ). u ++ (w ++ v)) before after ∙ sym (append_assoc P w (drop (8 * (k + 1 + 1)) old));
      rest =
          append_assoc P w (chained (k + 1 + 1) (drop (k + 1) xs))
          ∙ ap₂ (λ (y : Item) (i : ℕ). P ++ (write y i ++ chained (k + 1 + 1) (drop (k + 1) xs))) f index
          ∙ sym (ap (λ (ys : List Item). P ++ chained (k + 1) ys) (drop_more xs k nothing l))
          ∙ p.rest;
    }

-- All of them: the buffer holds the file, and what it held after it.
pub put_all : (drive mode : ℕ) (xs : List Item) (old out : List ℕ) (k : ℕ) → length xs ≤ k → Put drive mode xs old out k → out ≡ over (file drive mode xs) old
unfolding chained
put_all drive mode xs old out k l p =
    let whole : p.done ≡ file drive mode xs =
    sym (append-nil p.done) ∙ sym (ap (λ (ys : List Item). p.done ++ chained (k + 1) ys) (drop_all k xs l)) ∙ p.rest in
    p.here ∙ ap (λ (n : ℕ). p.done ++ drop n old) (sym p.size) ∙ ap (λ (u : List ℕ). u ++ drop (length u) old) whole

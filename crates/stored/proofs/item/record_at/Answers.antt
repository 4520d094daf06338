use Rattle.std.proofs.Common.{◌≡◌, ℕ, zero, suc, ◌+◌, ◌*◌, ◌/◌, ◌<◌, List, [], get_or, length, take, drop, ap, ◌∙◌, arith}
use Rattle.std.proofs.lemmas.List.{drop-drop}
use Rattle.std.specs.Simd.{first_chunks}
use Rattle.stored.proofs.item.record_at.Goals as goal

-- A chunk, by its place.
first_chunks-at : (n k i : ℕ) (xs : List ℕ) → i < k → get_or (first_chunks n k xs) i [] ≡ take n (drop (n * i) xs)
first_chunks-at n zero i xs h = absurd (omega arith)
first_chunks-at n (suc k) zero xs h = ap (λ (m : ℕ). take n (drop m xs)) (let q : 0 ≡ n * 0 = omega arith in q)
first_chunks-at n (suc k) (suc i) xs h =
    let less : i < k = omega arith in
    first_chunks-at n k i (drop n xs) less ∙ ap (take n) (drop-drop (n * i) n xs ∙ ap (λ (m : ℕ). drop m xs) (let q : n + n * i ≡ n * suc i = omega arith in q))

-- the record is the chunk of its index
pub returns : goal.returns
returns c =
    ap (λ (i : ℕ). get_or c.as_chunks.result.0.now i []) c.from.ensures
    ∙ ap (λ (records : List (List ℕ)). get_or records c.args.i []) c.as_chunks.ensures.front
    ∙ first_chunks-at 8 (length c.args.bytes.now / 8) c.args.i c.args.bytes.now c.requires

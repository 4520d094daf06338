use Rattle.std.proofs.Common.{◌≡◌, ℕ, ◌+◌, ◌<◌, ◌≤◌, List, map, length, ◌∙◌, refl, arith}
use Rattle.windows.specs.Windows.{span}
use Rattle.stored.specs.Stores.{items_of}
use Rattle.stored.specs.declared.item.Item.{Item}
use Rattle.stored.proofs.Writes.{items_count, item_line, item_rule, put_none, put_next, put_all}
use Rattle.stored.proofs.store.put_file.Goals as goal

-- the head is written
pub loop-k-init : goal.loop-k-init
loop-k-init c = put_none _ _ _ _ _ _ _ (items_count c.args.lines.now c.args.rules.now) c.index_if.ensures c.put_record.ensures

-- one more line
pub loop-k-preserved : goal.loop-k-preserved
loop-k-preserved c =
    let xs : List Item = items_of (map span c.args.lines.now) c.args.rules.now in
    let less : c.loop-k.k < length xs = omega (arith, items_count c.args.lines.now c.args.rules.now, c.loop-k-test.true) in
    put_next _ _ _ _ _ _ _ c.loop-k.k _ c.from.result (items_count c.args.lines.now c.args.rules.now) less refl
    (c.from.ensures ∙ item_line c.args.lines.now c.args.rules.now c.loop-k.k c.index-lines-k.result c.loop-k-test.true c.index-lines-k.is)
    c.put_item.ensures c.loop-k.invariant

-- one more rule
pub loop-k-2-preserved : goal.loop-k-2-preserved
loop-k-2-preserved c =
    let xs : List Item = items_of (map span c.args.lines.now) c.args.rules.now in
    let k : ℕ = length c.args.lines.now + c.loop-k-2.k in
    let less : k < length xs = omega (arith, items_count c.args.lines.now c.args.rules.now, c.loop-k-2-test.true) in
    let more : length c.args.lines.now + (c.loop-k-2.k + 1) ≡ k + 1 = omega arith in
    put_next _ _ _ _ _ _ _ k _ _ (items_count c.args.lines.now c.args.rules.now) less more
    (item_rule c.args.lines.now c.args.rules.now c.loop-k-2.k _ c.loop-k-2-test.true)
    c.put_item-in-loop-k-2.ensures c.loop-k-2.invariant

-- all of them
pub returns : goal.returns
returns c =
    let xs : List Item = items_of (map span c.args.lines.now) c.args.rules.now in
    let all : length xs ≤ length c.args.lines.now + c.loop-k-2.k = omega (arith, items_count c.args.lines.now c.args.rules.now, c.loop-k-2-test.false) in
    put_all _ _ xs _ _ _ all c.loop-k-2.invariant

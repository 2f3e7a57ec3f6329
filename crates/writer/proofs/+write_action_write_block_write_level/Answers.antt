-- `writer::write_level`, `write_block` and `write_action` meet their contracts. The measure: levels that are left. Assumes nothing.
use borrow.Author.Rules.{rules}
use mathlib.Core.Path.{refl, sym, ◌∙◌}
use native.Mathlib.Omega.{arith}
use Rattle.writer.specs.Writing.{tables_of}
use Rattle.writer.proofs.Turns.{Progress}
use Rattle.writer.proofs.Actions.{Going}
use Rattle.writer.proofs.Actions as laws
use Rattle.writer.proofs.Blocks as blocks
use Rattle.writer.proofs.Turns as turns
use Rattle.writer.proofs.+write_action_write_block_write_level.Goals as goal

-- ---- write_action

pub write_action-loop-p-init : goal.write_action-loop-p-init
write_action-loop-p-init t c =
    let a = c.args in
    let T = (tables_of a.p) in
    let w = c.put_head-r in
    λ h bs k x₀ eo er. (laws.begins T a.p.style h bs a.a a.m x₀ a.place.now k w.new.out w.result eo er, refl)

pub write_action-write_block-at-requires : goal.write_action-write_block-at-requires
write_action-write_block-at-requires t c =
    let a = c.args in
    let T = (tables_of a.p) in
    let h = c.requires.0 in
    let bs = c.requires.1.0 in
    let k = c.requires.1.1 in
    let w = c.put_head-r in
    let v = c.loop-p in
    let i = v.invariant h bs k a.out.now w.ensures.out_after w.ensures.value in
    let b = laws.next T a.p.style h bs a.a a.m a.out.now a.place.now k w.result v.at v.out v.place i.1 i.0 (sym c.is_block_of.ensures ∙ c.loop-p-test.true) in
    let f = b.forward in
    let g = b.asked.levels in
    (omega arith, (b.part, (b.tree, b.asked)))

pub write_action-loop-p-smaller : goal.write_action-loop-p-smaller
write_action-loop-p-smaller t c =
    let a = c.args in
    let T = (tables_of a.p) in
    let h = c.requires.0 in
    let bs = c.requires.1.0 in
    let k = c.requires.1.1 in
    let w = c.put_head-r in
    let v = c.loop-p in
    let u = c.write_block-at in
    let i = v.invariant h bs k a.out.now w.ensures.out_after w.ensures.value in
    let b = laws.next T a.p.style h bs a.a a.m a.out.now a.place.now k w.result v.at v.out v.place i.1 i.0 (sym c.is_block_of.ensures ∙ c.loop-p-test.true) in
    let f = (u.ensures b.part b.tree b.asked).level in
    let g = b.asked.levels in
    omega arith

pub write_action-loop-p-preserved : goal.write_action-loop-p-preserved
write_action-loop-p-preserved t c =
    let a = c.args in
    let T = (tables_of a.p) in
    let w = c.put_head-r in
    let v = c.loop-p in
    let u = c.write_block-at in
    λ h bs k x₀ eo er.
    let i = v.invariant h bs k x₀ eo er in
    let b = laws.next T a.p.style h bs a.a a.m x₀ a.place.now k w.result v.at v.out v.place i.1 i.0 (sym c.is_block_of.ensures ∙ c.loop-p-test.true) in
    (b.after u.new.out u.result (u.ensures b.part b.tree b.asked), c.place-1.given ∙ i.1)

pub write_action-returns : goal.write_action-returns
write_action-returns t c =
    let a = c.args in
    let T = (tables_of a.p) in
    let w = c.put_head-r in
    let v = c.loop-p in
    λ h bs k.
    laws.ends T a.p.style h bs a.a a.m a.out.now a.place.now k w.result v.at v.out (v.invariant h bs k a.out.now w.ensures.out_after w.ensures.value).0
    (sym c.is_block_of.ensures ∙ c.loop-p-test.false)

-- ---- write_block

pub write_block-returns : goal.write_block-returns
write_block-returns t c =
    let a = c.args in
    let T = (tables_of a.p) in
    let w = c.write_level-body in
    λ q x k.
    blocks.written T a.p.style a.a a.r a.at a.place.now c.actions_of-n.result c.actions_of-n.ensures a.out.now c.min-start.result c.min-start.ensures w.new.out w.result w.ensures q x k c.fill_size.new.out c.fill_size.ensures c.with_body.result c.with_body.ensures

-- ---- write_level

pub write_level-loop-k-init : goal.write_level-loop-k-init
write_level-loop-k-init t c =
    let a = c.args in
    let T = (tables_of a.p) in
    λ l q. turns.level-starts T a.p.style l a.n a.a a.m a.place.now a.out.now q

pub write_level-mark-requires : goal.write_level-mark-requires
write_level-mark-requires t c =
    let a = c.args in
    let T = (tables_of a.p) in
    let l = c.requires.0 in
    let q = c.requires.1 in
    let v = c.loop-k in
    let g = v.invariant l q in
    turns.low T a.p.style l a.n a.a a.m a.place.now a.out.now q v.at.action v.at.level v.at.byte v.at.late v.k v.place v.out g

pub write_level-overflow_add-n : goal.write_level-overflow_add-n
write_level-overflow_add-n t c =
    let a = c.args in
    let T = (tables_of a.p) in
    let l = c.requires.0 in
    let q = c.requires.1 in
    let v = c.loop-k in
    let g = v.invariant l q in
    let r = turns.roomy T a.p.style l a.n a.a a.m a.place.now a.out.now q v.at.action v.at.level v.at.byte v.at.late v.k v.place v.out g in
    search rules

pub write_level-offset_bounds-place-n : goal.write_level-offset_bounds-place-n
write_level-offset_bounds-place-n t c =
    let a = c.args in
    let T = (tables_of a.p) in
    let l = c.requires.0 in
    let q = c.requires.1 in
    let v = c.loop-k in
    let g = v.invariant l q in
    let r = turns.roomy T a.p.style l a.n a.a a.m a.place.now a.out.now q v.at.action v.at.level v.at.byte v.at.late v.k v.place v.out g in
    search rules

pub write_level-slice_bounds-write_action-count : goal.write_level-slice_bounds-write_action-count
write_level-slice_bounds-write_action-count t c =
    let a = c.args in
    let T = (tables_of a.p) in
    let l = c.requires.0 in
    let q = c.requires.1 in
    let v = c.loop-k in
    let g = v.invariant l q in
    let r = turns.roomy T a.p.style l a.n a.a a.m a.place.now a.out.now q v.at.action v.at.level v.at.byte v.at.late v.k v.place v.out g in
    search rules

pub write_level-slice_bounds-write_action-start : goal.write_level-slice_bounds-write_action-start
write_level-slice_bounds-write_action-start t c =
    let a = c.args in
    let T = (tables_of a.p) in
    let l = c.requires.0 in
    let q = c.requires.1 in
    let v = c.loop-k in
    let g = v.invariant l q in
    let r = turns.roomy T a.p.style l a.n a.a a.m a.place.now a.out.now q v.at.action v.at.level v.at.byte v.at.late v.k v.place v.out g in
    search rules

pub write_level-write_action-next-requires : goal.write_level-write_action-next-requires
write_level-write_action-next-requires t c =
    let a = c.args in
    let T = (tables_of a.p) in
    let l = c.requires.0 in
    let q = c.requires.1 in
    let v = c.loop-k in
    let g = v.invariant l q in
    let f = turns.forward T a.p.style l a.n a.a a.m a.place.now a.out.now q v.at.action v.at.level v.at.byte v.at.late v.k v.place v.out g in
    (omega arith, turns.action-given T a.p.style l a.n a.a a.m a.place.now a.out.now q v.at.action v.at.level v.at.byte v.at.late v.k v.place v.out g c.loop-k-test.true c.mark.new.place c.mark.ensures)

pub write_level-overflow_add-at : goal.write_level-overflow_add-at
write_level-overflow_add-at t c =
    let a = c.args in
    let T = (tables_of a.p) in
    let l = c.requires.0 in
    let q = c.requires.1 in
    let v = c.loop-k in
    let g = v.invariant l q in
    let w = c.write_action-next in
    let i = turns.sum_low T a.p.style l a.n a.a a.m a.place.now a.out.now q v.at.action v.at.level v.at.byte v.at.late v.k v.place v.out g c.loop-k-test.true c.mark.new.place c.mark.ensures c.min-start.result c.min-start.ensures w.new.out w.result w.ensures in
    omega (arith, i)

pub write_level-loop-k-preserved : goal.write_level-loop-k-preserved
write_level-loop-k-preserved t c =
    let a = c.args in
    let T = (tables_of a.p) in
    let v = c.loop-k in
    let w = c.write_action-next in
    λ l q. let g = v.invariant l q in turns.goes T a.p.style l a.n a.a a.m a.place.now a.out.now q v.at.action v.at.level v.at.byte v.at.late v.k v.place v.out g c.loop-k-test.true c.mark.new.place c.mark.ensures c.min-start.result c.min-start.ensures w.new.out w.result w.ensures c.min.result c.min.ensures w.new.place c.place-in-loop-k-1.given.1

pub write_level-mark-requires-2 : goal.write_level-mark-requires-2
write_level-mark-requires-2 t c =
    let a = c.args in
    let T = (tables_of a.p) in
    let l = c.requires.0 in
    let q = c.requires.1 in
    let v = c.loop-k in
    let g = v.invariant l q in
    turns.low T a.p.style l a.n a.a a.m a.place.now a.out.now q v.at.action v.at.level v.at.byte v.at.late v.k v.place v.out g

pub write_level-returns : goal.write_level-returns
write_level-returns t c =
    let a = c.args in
    let T = (tables_of a.p) in
    let v = c.loop-k in
    let j = c.aim_jumps-far in
    λ l q. let g = v.invariant l q in turns.ends T a.p.style l a.n a.a a.m a.place.now a.out.now q v.at.action v.at.level v.at.byte v.at.late v.k v.place v.out g c.loop-k-test.false c.mark-2.new.place c.mark-2.ensures j.result c.min-2.result j.new.out j.ensures.value j.ensures.out_after c.min-2.ensures

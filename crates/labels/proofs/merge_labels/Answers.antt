-- `labels::merge_labels` meets its contract: after i turns `out` holds the labels of the first i words, and the index their chains.
-- Assumes nothing.
use mathlib.Core.Path.{◌≡◌, sym, subst, ◌∙◌}
use Prim.Native.Nat.{ℕ, ◌*◌}
use native.Mathlib.Omega.{arith}
use lib.ListN.{take}
use lib.Seq.{length-take-le, length_front}
use Rattle.labels.specs.Labels.{Merged}
use borrow.Author.Rules.{rules}
use Rattle.labels.proofs.Linking.{no_chains}
use Rattle.labels.proofs.Turns.{Going, begins, spread_out, asks, goes_on}
use Rattle.labels.proofs.merge_labels.Goals as goal
use Rattle.labels.proofs.merge_labels.Goals.{After-spread-t}

spread_on : (c : After-spread-t) → Going c.args.text.now c.args.s.now c.args.words.now c.args.n c.args.out.now c.loop-i.out c.spread-t.new.index c.spread-t.result c.loop-i.i
spread_on c =
    let a = c.args in
    let l = c.loop-i in
    let q = c.spread-t in
    spread_out a.text.now a.s.now a.words.now a.n a.out.now l.chains l.out l.t l.i l.invariant
    q.new.index q.result q.auto.index q.ensures.kept q.ensures.chained

pub slice_bounds-chains-end-2 : goal.slice_bounds-chains-end-2
slice_bounds-chains-end-2 c = let p = c in sym (length-take-le p.args.n p.args.index.now p.requires.n_in_bounds_2.0)

pub loop-i-init : goal.loop-i-init
loop-i-init c =
    let p = c in
    let a = p.args in
    let q = c.fill in
    begins a.text.now a.s.now a.words.now a.n a.out.now q.new.self 1540483477 (a.n * 8)
    (q.ensures.len ∙ length-take-le a.n a.index.now p.requires.n_in_bounds_2.0) (no_chains q.new.self (λ k h. search rules))

pub spread-t-requires : goal.spread-t-requires
spread-t-requires c =
    let p = c in
    let a = p.args in
    let l = c.loop-i in
    (asks a.text.now a.s.now a.words.now a.n a.out.now l.chains l.out l.t l.i l.invariant p.requires.n_in_bounds.0 c.loop-i-test.true p.requires.n_in_bounds.1 p.requires.n_in_bounds_2.1).1

pub put_label-t-requires : goal.put_label-t-requires
put_label-t-requires c =
    let p = c in
    let a = p.args in
    let l = c.loop-i in
    let q = c.spread-t in
    asks a.text.now a.s.now a.words.now a.n a.out.now q.new.index l.out q.result l.i (spread_on (goal.at.put_label-t-requires c).After-spread-t) p.requires.n_in_bounds.0 c.loop-i-test.true p.requires.n_in_bounds.1 p.requires.n_in_bounds_2.1

pub loop-i-preserved : goal.loop-i-preserved
loop-i-preserved c =
    let p = c in
    let a = p.args in
    let l = c.loop-i in
    let r = c.spread-t in
    let q = c.put_label-t in
    goes_on a.text.now a.s.now a.words.now a.n a.out.now r.new.index l.out r.result l.i (spread_on (goal.at.loop-i-preserved c).After-spread-t) p.requires.n_in_bounds.0 c.loop-i-test.true
    q.new.out q.new.index q.result q.auto.out q.auto.index q.ensures.placed q.ensures.chained

pub shape_of-index : goal.shape_of-index
shape_of-index c =
    let p = c in
    let l = c.loop-i in
    length_front p.args.index.now l.chains p.args.n (l.invariant.chains-long ∙ sym (length-take-le p.args.n p.args.index.now p.requires.n_in_bounds_2.0))

pub returns : goal.returns
returns c =
    let p = c in
    let a = p.args in
    let l = c.loop-i in
    let e : l.i ≡ a.n = omega (arith, l.invariant.inside, c.loop-i-test.false) in
    subst (λ (j : ℕ). Merged a.text.now a.s.now (take j a.words.now) a.out.now l.out l.t.labels) e l.invariant.labels

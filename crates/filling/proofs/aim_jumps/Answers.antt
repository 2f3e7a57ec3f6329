-- `filling::aim_jumps` meets its contract. The invariant: the first k are aimed. Assumes nothing.
use mathlib.Core.Path.{◌≡◌, ap, ◌∙◌}
use Prim.Native.Nat.{ℕ}
use native.Mathlib.Omega.{arith}
use lib.ListN.{length}
use Rattle.filling.specs.Filling.{aimed_to, far_to}
use Rattle.filling.proofs.Offsets.{next-aimed, next_far, length-aimed-to}
use Rattle.filling.proofs.aim_jumps.Goals as goal

pub loop-k-preserved : goal.loop-k-preserved
loop-k-preserved c =
    let a = c.args in
    let l = c.loop-k in
    let its = c.action_at in
    let aim = c.word_at-aim in
    let jump = c.aim_jump in (
      next-aimed a.aims.now a.place.now a.n l.k its.result aim.result its.ensures aim.ensures a.out.now l.out jump.new.out
          l.invariant.0 jump.ensures.out_after,
      next_far a.aims.now a.place.now a.n l.k its.result aim.result its.ensures aim.ensures l.far jump.result c.min-far.result
          l.invariant.1 jump.ensures.value c.min-far.ensures,
    )

pub shape_of-out : goal.shape_of-out
shape_of-out c =
    let a = c.args in
    let l = c.loop-k in
    ap length l.invariant.0 ∙ length-aimed-to a.aims.now a.place.now a.n l.k a.out.now

pub returns : goal.returns
returns c =
    let a = c.args in
    let l = c.loop-k in
    let e : l.k ≡ a.n = omega (arith, c.loop-k-test.false, l.auto.k-end) in
    record { out_after = l.invariant.0 ∙ ap (λ (i : ℕ). aimed_to a.aims.now a.place.now a.n i a.out.now) e; value = l.invariant.1 ∙ ap (far_to a.aims.now a.place.now a.n) e }

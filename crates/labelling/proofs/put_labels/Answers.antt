-- `labelling::put_labels` meets its contract. Assumes nothing.
use Prim.Native.Nat.{◌≤◌, ◌<◌}
use native.Mathlib.Omega.{arith}
use Rattle.labelling.proofs.Over.{all-few, named_half, levels_half, nothing}
use Rattle.labelling.proofs.put_labels.Goals as goal

pub returns-then-n-eq0 : goal.returns-then-n-eq0
returns-then-n-eq0 c = λ x known e. nothing _ _ _ _ _ c.requires x known e c.if-n-eq0.true _

pub overflow_add-n : goal.overflow_add-n
overflow_add-n c =
    omega (arith, all-few _ _ _ _ _ c.requires)

pub overflow_add-n-2 : goal.overflow_add-n-2
overflow_add-n-2 c =
    omega (arith, all-few _ _ _ _ _ c.requires)

pub overflow_add-n-3 : goal.overflow_add-n-3
overflow_add-n-3 c =
    omega (arith, all-few _ _ _ _ _ c.requires)

pub put_over-requires-2-clause-roomy : goal.put_over-requires-2-clause-roomy
put_over-requires-2-clause-roomy c =
    let p = c.requires in
    let n : c.args.n ≤ 32770 = omega (arith, named_half _ _ _ _ _ p p.tree p.of p.log-of) in
    let l : c.args.levels < 32770 = omega (arith, levels_half _ _ _ _ _ p p.tree p.of p.log-of) in
    let few : 32770 ≤ 65536 = omega arith in
    (n, (l, few))

-- `labels::hash_of` meets its contract. Assumes nothing.
use mathlib.Core.Path.{ap}
use Prim.Native.Nat.{ℕ, ◌+◌, ◌*◌, ◌%◌, ◌≤◌}
use native.Mathlib.Nat.{mod-lt}
use native.Mathlib.Omega.{arith}
use Rattle.labels.proofs.Hashing.{product_fits, hash_more, hash_end}
use Rattle.labels.proofs.hash_of.Goals as goal
use Rattle.labels.proofs.hash_of.Goals.{At-loop-b}

small : (c : At-loop-b) → c.loop-b.h * c.from-base.result ≤ 4294967295 * 4294967295
small c = product_fits c.loop-b.h c.from-base.result c.loop-b.invariant.0 (omega (arith, c.from-base.ensures))

pub overflow_mul-h : goal.overflow_mul-h
overflow_mul-h c = omega (arith, small (goal.at.overflow_mul-h c).At-loop-b)

pub overflow_add-h-in-loop-b : goal.overflow_add-h-in-loop-b
overflow_add-h-in-loop-b c = omega (arith, c.from.ensures, small (goal.at.overflow_add-h-in-loop-b c).At-loop-b)

pub loop-b-preserved : goal.loop-b-preserved
loop-b-preserved c =
    let a = c.args in
    let l = c.loop-b in
    (mod-lt _ (omega arith), rw (c.from-base.ensures, c.from.ensures) (hash_more a.seed (a.level + 1) l.h l.b-index a.name.now l.invariant.1 (omega arith)))

pub overflow_mul-result : goal.overflow_mul-result
overflow_mul-result c = omega (arith, small (goal.at.overflow_mul-result c).At-loop-b)

pub returns : goal.returns
returns c =
    let a = c.args in
    let l = c.loop-b in
    rw c.from-base.ensures (ap (λ (h : ℕ). h * a.seed % 4294967296) (hash_end a.seed (a.level + 1) l.h l.b-index a.name.now l.invariant.1 (omega arith)))

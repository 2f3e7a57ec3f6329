-- `labels::link` meets its contract. Assumes nothing.
use native.Mathlib.Omega.{arith}
use Rattle.labels.proofs.link.Goals as goal

pub overflow_mul-index-2 : goal.overflow_mul-index-2
overflow_mul-index-2 c = omega (arith, c.slice_known-3-1.given c.args.b)

pub overflow_add-index-3 : goal.overflow_add-index-3
overflow_add-index-3 c = omega (arith, c.slice_known-3-1.given c.args.b)

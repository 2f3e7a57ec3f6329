-- `counting::one_if` meets its contract. Assumes nothing.
use native.Mathlib.Omega.{arith}
use Rattle.counting.proofs.Counts.{one, zero_if}
use Rattle.counting.proofs.one_if.Goals as goal

pub returns-then-kind_of-kind : goal.returns-then-kind_of-kind
returns-then-kind_of-kind c =
    record { value = one _ _ c.kind_of.ensures c.if-kind_of-kind.true; upper_bound = omega arith }

pub returns-else-kind_of-kind : goal.returns-else-kind_of-kind
returns-else-kind_of-kind c =
    record { value = zero_if _ _ c.kind_of.ensures c.if-kind_of-kind.false; upper_bound = omega arith }

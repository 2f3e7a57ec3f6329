-- `pcode_list::read_listed` meets its contract: its tables have a place for each byte, and one for the top level. Assumes
-- nothing.
use mathlib.Core.Path.{ap}
use Prim.Native.Nat.{ℕ, ◌/◌}
use native.Mathlib.Omega.{arith}
use Rattle.pcode_list.proofs.Ample.{never_short}
use Rattle.pcode_list.proofs.read_listed.Goals as goal

pub returns-clause-never_short : goal.returns-clause-never_short
returns-clause-never_short c =
    let few = c.if-text-gt-MOST.false in
    never_short _ _ _ _ 4097 (omega (arith, few, c.told-tokens)) (omega (arith, few)) c.told-actions c.told-operands
    (ap (λ (n : ℕ). n / 2) c.told-levels) c.told-labels c.read.ensures.reads

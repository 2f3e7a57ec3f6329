-- `field_coding::Coder::put_decoded` meets its contract. Assumes nothing.
use native.Mathlib.Omega.{arith}
use Rattle.field_coding.proofs.Escapes.{begin, turn}
use Rattle.field_coding.proofs.Coder.put_decoded.Goals as goal

pub loop-b-init : goal.loop-b-init
loop-b-init c = begin

pub put_next-requires : goal.put_next-requires
put_next-requires c = omega (arith, c.loop-b.invariant.near)

pub loop-b-preserved : goal.loop-b-preserved
loop-b-preserved c = turn c.loop-b.invariant c.loop-b-test.true c.put_next.ensures c.protects-protected.ensures

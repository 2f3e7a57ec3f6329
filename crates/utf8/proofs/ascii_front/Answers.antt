-- `utf8::ascii_front` meets its contract. Assumes nothing.
use native.Mathlib.Omega.{arith}
use Rattle.utf8.proofs.Front.{four_more}
use Rattle.utf8.proofs.ascii_front.Goals as goal

pub loop-at-init : goal.loop-at-init
loop-at-init c = record { inside = omega arith; counts = omega arith }

pub loop-at-preserved : goal.loop-at-preserved
loop-at-preserved c = four_more c.args.text.now c.loop-at.at (omega arith) c.loop-at.invariant c.if-not-four_ascii.ensures

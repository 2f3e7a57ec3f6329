-- `held::hand_held` meets its contract. Assumes nothing.
use native.Mathlib.Omega.{arith}
use Rattle.handover.specs.Reading.{lent}
use Rattle.held.proofs.hand_held.Goals as goal

pub overflow_mul-counts : goal.overflow_mul-counts
overflow_mul-counts c =
    omega (arith, c.requires.few-levels)

pub returns-clause-hands_over : goal.returns-clause-hands_over
returns-clause-hands_over c = λ i. lent
    (c.copy_front.ensures i)
    (c.copy_front-2.ensures i)
    (c.copy_front-3.ensures i)
    (c.copy_front-4.ensures i)
    (c.copy_front-5.ensures i)

-- `operands::repeat` meets its contract. Assumes nothing.
use borrow.Author.Rules.{rules}
use mathlib.Core.Path.{refl}
use Rattle.operands.proofs.Forms.{repeat_start, repeat_next, repeat_bad, repeat_ends}
use Rattle.operands.proofs.Runs.{fine-to, met}
use Rattle.operands.proofs.repeat.Goals as goal

pub loop-init : goal.loop-init
loop-init c = (search repeat_start, search rules, refl)

pub returns-in_err-p : goal.returns-in_err-p
returns-in_err-p c = rw (met c.from_residual.ensures.1) (repeat_bad _ _ _ _ _ _ _ _ _ _ _ c.loop.invariant.0 c.loop-test.true c.in_err-p.ensures)

pub loop-preserved : goal.loop-preserved
loop-preserved c = (search (repeat_next, c.in_ok-p.ensures), search (fine-to, c.in_ok-p.ensures), search rules)

pub returns : goal.returns
returns c = search repeat_ends

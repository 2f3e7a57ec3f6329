-- `operands::pairs` meets its contract. Assumes nothing.
use borrow.Author.Rules.{rules}
use mathlib.Core.Path.{refl}
use Rattle.operands.proofs.Forms.{pairs_start, pairs_next, pairs-bad, pairs-ends}
use Rattle.operands.proofs.Runs.{fine-to, met}
use Rattle.operands.proofs.pairs.Goals as goal

pub loop-init : goal.loop-init
loop-init c = (search pairs_start, search rules, refl)

pub returns-in_err-p : goal.returns-in_err-p
returns-in_err-p c = rw (met c.from_residual.ensures.1) (pairs-bad _ _ _ _ _ _ _ _ _ _ c.loop.invariant.0 c.loop-test.true c.in_err-p.ensures)

pub loop-preserved : goal.loop-preserved
loop-preserved c = (search (pairs_next, c.in_ok-p.ensures), search (fine-to, c.in_ok-p.ensures), search rules)

pub returns : goal.returns
returns c = search pairs-ends

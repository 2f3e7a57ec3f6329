-- `operands::more_values` meets its contract. Assumes nothing.
use borrow.Author.Rules.{rules}
use mathlib.Core.Path.{refl}
use Rattle.operands.proofs.Forms.{values-start, values-next, values-bad, values-end, values_past, values_less}
use Rattle.operands.proofs.Runs.{fine-to, met}
use Rattle.operands.proofs.more_values.Goals as goal

pub loop-m-init : goal.loop-m-init
loop-m-init c = (search values-start, search rules, refl)

pub operand-requires : goal.operand-requires
operand-requires c = search values_past

pub returns-in_err-p : goal.returns-in_err-p
returns-in_err-p c = rw (met c.from_residual.ensures.1) (search (values-bad, c.in_err-p.ensures))

pub loop-m-smaller : goal.loop-m-smaller
loop-m-smaller c = search (values_less, c.in_ok-p.ensures)

pub loop-m-preserved : goal.loop-m-preserved
loop-m-preserved c = (search (values-next, c.in_ok-p.ensures), search (fine-to, c.in_ok-p.ensures), search rules)

pub returns : goal.returns
returns c = search values-end

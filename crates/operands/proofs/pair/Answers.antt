-- `operands::pair` meets its contract. Assumes nothing.
use Rattle.operands.proofs.Forms.{pair_ok, pair_bad}
use Rattle.operands.proofs.Runs.{met, fine-to}
use Rattle.operands.proofs.pair.Goals as goal

pub returns-in_err-d : goal.returns-in_err-d
returns-in_err-d c = rw (met c.from_residual.ensures.1) (search (pair_bad, c.in_err-d.ensures))

pub next_operand-requires-2 : goal.next_operand-requires-2
next_operand-requires-2 c = search (fine-to, c.in_ok-d.ensures)

pub returns : goal.returns
returns c = search (pair_ok, c.in_ok-d.ensures)

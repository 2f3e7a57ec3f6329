-- `operands::three` meets its contract. Assumes nothing.
use Rattle.operands.proofs.Forms.{three_ok, three_bad}
use Rattle.operands.proofs.Runs.{met, fine-to}
use Rattle.operands.proofs.three.Goals as goal

pub returns-in_err-d : goal.returns-in_err-d
returns-in_err-d c = rw (met c.from_residual.ensures.1) (search (three_bad, c.in_err-d.ensures))

pub next_operand-requires : goal.next_operand-requires
next_operand-requires c = search (fine-to, c.in_ok-d.ensures)

pub returns : goal.returns
returns c = search (three_ok, c.in_ok-d.ensures)

-- `operands::next_operand` meets its contract. Assumes nothing.
use Rattle.operands.proofs.Runs.{next_ok, next-bad, met, pass_fine}
use Rattle.operands.proofs.next_operand.Goals as goal

pub returns-in_err-d : goal.returns-in_err-d
returns-in_err-d c = rw (met c.from_residual.ensures.1) (search (next-bad, c.in_err-d.ensures))

pub operand-requires : goal.operand-requires
operand-requires c = search (pass_fine, c.in_ok-d.ensures)

pub returns : goal.returns
returns c = search (next_ok, c.in_ok-d.ensures)

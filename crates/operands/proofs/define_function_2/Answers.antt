-- `operands::define_function_2` meets its contract. Assumes nothing.
use Rattle.operands.proofs.Forms.{function_2_ok, function_2_bad}
use Rattle.operands.proofs.Runs.{met, fine-to}
use Rattle.operands.proofs.define_function_2.Goals as goal

pub returns-in_err-d : goal.returns-in_err-d
returns-in_err-d c = rw (met c.from_residual.ensures.1) (search (function_2_bad, c.in_err-d.ensures))

pub registers-requires : goal.registers-requires
registers-requires c = search (fine-to, c.in_ok-d.ensures)

pub returns : goal.returns
returns c = search (function_2_ok, c.in_ok-d.ensures)

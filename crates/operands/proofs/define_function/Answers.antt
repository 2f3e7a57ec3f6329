-- `operands::define_function` meets its contract. Assumes nothing.
use Rattle.operands.proofs.Forms.{function_ok, function-bad}
use Rattle.operands.proofs.Runs.{met, fine-to}
use Rattle.operands.proofs.define_function.Goals as goal

pub returns-in_err-d : goal.returns-in_err-d
returns-in_err-d c = rw (met c.from_residual.ensures.1) (search (function-bad, c.in_err-d.ensures))

pub names-requires : goal.names-requires
names-requires c = search (fine-to, c.in_ok-d.ensures)

pub returns : goal.returns
returns c = search (function_ok, c.in_ok-d.ensures)

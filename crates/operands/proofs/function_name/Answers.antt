-- `operands::function_name` meets its contract. Assumes nothing.
use Rattle.operands.proofs.Forms.{name_ok, name-bad}
use Rattle.operands.proofs.Runs.{met, fine-to}
use Rattle.operands.proofs.function_name.Goals as goal

pub returns-in_err-d : goal.returns-in_err-d
returns-in_err-d c = rw (met c.from_residual.ensures.1) (search (name-bad, c.in_err-d.ensures))

pub comma-requires : goal.comma-requires
comma-requires c = search (fine-to, c.in_ok-d.ensures)

pub returns : goal.returns
returns c = search (name_ok, c.in_ok-d.ensures)

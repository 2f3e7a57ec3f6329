-- `operands::names` meets its contract. Assumes nothing.
use Rattle.operands.proofs.Forms.{names_ok, names-bad, count-fine}
use Rattle.operands.proofs.Runs.{met}
use Rattle.operands.proofs.names.Goals as goal

pub returns-in_err-d : goal.returns-in_err-d
returns-in_err-d c = rw (met c.from_residual.ensures.1) (search (names-bad, c.in_err-d.ensures))

pub repeat-requires : goal.repeat-requires
repeat-requires c = search (count-fine, c.in_ok-d.ensures)

pub returns : goal.returns
returns c = search (names_ok, c.in_ok-d.ensures)

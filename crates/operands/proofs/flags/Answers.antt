-- `operands::flags` meets its contract. Assumes nothing.
use Rattle.operands.proofs.Forms.{flags_ok, flags_bad}
use Rattle.operands.proofs.Runs.{met, fine-to}
use Rattle.operands.proofs.flags.Goals as goal

pub returns-in_err-d : goal.returns-in_err-d
returns-in_err-d c = rw (met c.from_residual.ensures.1) (search (flags_bad, c.in_err-d.ensures))

pub repeat-requires : goal.repeat-requires
repeat-requires c = search (fine-to, c.in_ok-d.ensures)

pub returns : goal.returns
returns c = search (flags_ok, c.in_ok-d.ensures)

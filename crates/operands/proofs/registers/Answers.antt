-- `operands::registers` meets its contract. Assumes nothing.
use Rattle.operands.proofs.Forms.{registers_ok, registers-bad, count-fine}
use Rattle.operands.proofs.Runs.{met}
use Rattle.operands.proofs.registers.Goals as goal

pub returns-in_err-d : goal.returns-in_err-d
returns-in_err-d c = rw (met c.from_residual.ensures.1) (search (registers-bad, c.in_err-d.ensures))

pub flags_and_pairs-requires : goal.flags_and_pairs-requires
flags_and_pairs-requires c = search (count-fine, c.in_ok-d.ensures)

pub returns : goal.returns
returns c = search (registers_ok, c.in_ok-d.ensures)

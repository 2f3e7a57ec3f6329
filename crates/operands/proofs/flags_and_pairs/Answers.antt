-- `operands::flags_and_pairs` meets its contract. Assumes nothing.
use Rattle.operands.proofs.Forms.{flags_pairs_ok, flags_pairs-bad}
use Rattle.operands.proofs.Runs.{met, fine-to}
use Rattle.operands.proofs.flags_and_pairs.Goals as goal

pub returns-in_err-d : goal.returns-in_err-d
returns-in_err-d c = rw (met c.from_residual.ensures.1) (search (flags_pairs-bad, c.in_err-d.ensures))

pub pairs-requires : goal.pairs-requires
pairs-requires c = search (fine-to, c.in_ok-d.ensures)

pub returns : goal.returns
returns c = search (flags_pairs_ok, c.in_ok-d.ensures)

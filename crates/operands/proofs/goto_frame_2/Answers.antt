-- `operands::goto_frame_2` meets its contract. Assumes nothing.
use Rattle.operands.proofs.Forms.{frame_biased, frame-plain, frame-bad}
use Rattle.operands.proofs.Runs.{fine-to, met}
use Rattle.operands.proofs.goto_frame_2.Goals as goal

pub returns-in_err-d : goal.returns-in_err-d
returns-in_err-d c = rw (met c.from_residual.ensures.1) (search (frame-bad, c.in_err-d.ensures))

pub next_operand-requires : goal.next_operand-requires
next_operand-requires c = search (fine-to, c.in_ok-d.ensures)

pub returns-then-has_bias : goal.returns-then-has_bias
returns-then-has_bias c = search (frame_biased, c.in_ok-d.ensures)

pub returns-else-has_bias : goal.returns-else-has_bias
returns-else-has_bias c = search (frame-plain, c.in_ok-d.ensures)

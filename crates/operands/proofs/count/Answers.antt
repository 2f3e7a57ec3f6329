-- `operands::count` meets its contract. Assumes nothing.
use Rattle.operands.proofs.Forms.{count_ok, count-bad}
use Rattle.operands.proofs.count.Goals as goal

pub returns-then-is_count : goal.returns-then-is_count
returns-then-is_count c = search count_ok

pub returns-else-is_count : goal.returns-else-is_count
returns-else-is_count c = search count-bad

-- `operands::comma` meets its contract. Assumes nothing.
use Rattle.operands.proofs.Runs.{comma_ok, comma-bad}
use Rattle.operands.proofs.comma.Goals as goal

pub returns-then-is_kind_at : goal.returns-then-is_kind_at
returns-then-is_kind_at c = search comma_ok

pub returns-else-is_kind_at : goal.returns-else-is_kind_at
returns-else-is_kind_at c = search comma-bad

-- `parser::end_of_action` meets its contract. Assumes nothing.
use Rattle.parser.proofs.Leaves.{end_ok, end-bad, end_past}
use Rattle.parser.proofs.end_of_action.Goals as goal

pub returns-then-is_kind_at : goal.returns-then-is_kind_at
returns-then-is_kind_at c = search end_ok

pub returns-else-is_kind_at : goal.returns-else-is_kind_at
returns-else-is_kind_at c = search end-bad

pub returns-else-c-s : goal.returns-else-c-s
returns-else-c-s c = search end_past

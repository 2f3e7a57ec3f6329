-- `parser::colon` meets its contract. Assumes nothing.
use Rattle.parser.proofs.Leaves.{colon_ok, colon_bad}
use Rattle.parser.proofs.colon.Goals as goal

pub returns-then-is_kind_at : goal.returns-then-is_kind_at
returns-then-is_kind_at c = search colon_ok

pub returns-else-is_kind_at : goal.returns-else-is_kind_at
returns-else-is_kind_at c = search colon_bad

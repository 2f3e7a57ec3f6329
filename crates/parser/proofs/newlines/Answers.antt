-- `parser::newlines` meets its contract. Assumes nothing.
use Rattle.parser.proofs.Leaves.{skip_start, skip_next, skip_ends, skip_over}
use Rattle.parser.proofs.newlines.Goals as goal

pub loop-p-init : goal.loop-p-init
loop-p-init c = search skip_start

pub returns-then-not-is_kind_at : goal.returns-then-not-is_kind_at
returns-then-not-is_kind_at c = search skip_ends

pub loop-p-preserved : goal.loop-p-preserved
loop-p-preserved c = search skip_next

pub returns : goal.returns
returns c = search skip_over

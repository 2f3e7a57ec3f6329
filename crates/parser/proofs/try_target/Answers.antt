-- `parser::try_target` meets its contract. Assumes nothing.
use Rattle.parser.proofs.Leaves.{target-some, target_none}
use Rattle.parser.proofs.try_target.Goals as goal

pub returns-then-fits_at : goal.returns-then-fits_at
returns-then-fits_at c = search target-some

pub returns-else-fits_at : goal.returns-else-fits_at
returns-else-fits_at c = search target_none

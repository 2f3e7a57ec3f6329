-- `checking::check_over` meets its contract. Assumes nothing.
use Rattle.checking.proofs.Checked.{checked}
use Rattle.checking.proofs.check_over.Goals as goal

pub returns : goal.returns
returns g c = checked c.read_held.ensures.holds

-- `operands::given` meets its contract. Assumes nothing.
use Rattle.operands.proofs.Runs.{given_ok}
use Rattle.operands.proofs.given.Goals as goal

pub returns : goal.returns
returns c = search given_ok

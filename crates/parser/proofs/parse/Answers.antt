-- `parser::parse` meets its contract. Assumes nothing.
use Rattle.parser.proofs.Whole.{parsed, start_fine}
use Rattle.parser.proofs.parse.Goals as goal

pub actions-requires : goal.actions-requires
actions-requires c =
    search start_fine

pub returns : goal.returns
returns c =
    search parsed

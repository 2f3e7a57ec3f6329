-- `parser::label` meets its contract. Assumes nothing.
use Rattle.parser.proofs.Leaves.{label-fine, label_ok}
use Rattle.parser.proofs.label.Goals as goal

pub colon-requires : goal.colon-requires
colon-requires c = search label-fine

pub returns : goal.returns
returns c = search label_ok

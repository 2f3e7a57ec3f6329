-- `operands::operand` meets its contract. Assumes nothing.
use borrow.Author.Rules.{rules}
use Rattle.operands.proofs.Runs.{fits_so, operand-bad}
use Rattle.operands.proofs.operand.Goals as goal

pub given-requires : goal.given-requires
given-requires c = record { fine = search rules; at_value = search fits_so }

pub returns-else-fits_at : goal.returns-else-fits_at
returns-else-fits_at c = search operand-bad

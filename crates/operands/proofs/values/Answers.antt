-- `operands::values` meets its contract. Assumes nothing.
use borrow.Author.Rules.{rules}
use Rattle.operands.proofs.Forms.{list_ok, list_none}
use Rattle.operands.proofs.Runs.{fine-to, fits_so}
use Rattle.operands.proofs.values.Goals as goal

pub given-d-requires : goal.given-d-requires
given-d-requires c = record { fine = search rules; at_value = search fits_so }

pub more_values-requires : goal.more_values-requires
more_values-requires c = search fine-to

pub returns-then-fits_at : goal.returns-then-fits_at
returns-then-fits_at c = search list_ok

pub returns-else-fits_at : goal.returns-else-fits_at
returns-else-fits_at c = search list_none

-- `field_coding::Coder::put_string` meets its contract. Assumes nothing.
use Rattle.field_coding.proofs.Escapes.{closed}
use Rattle.field_coding.proofs.Coder.put_string.Goals as goal

pub returns-clause-codes : goal.returns-clause-codes
returns-clause-codes c = closed c.put_decoded.ensures.spells c.put_byte.ensures

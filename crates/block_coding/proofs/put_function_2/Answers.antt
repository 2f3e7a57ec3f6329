-- `block_coding::put_function_2` meets its contract. Assumes nothing.
use Rattle.lexemes.specs.Events.{body}
use Rattle.field_coding.proofs.Putting.{also, coded}
use Rattle.list_coding.specs.Operands.{values}
use Rattle.block_coding.proofs.Forms.{no_size, function_2}
use Rattle.block_coding.proofs.put_function_2.Goals as goal

pub returns : goal.returns
returns c = coded (function_2 (values c.args.o)) (also c.put_before_parameters.ensures.codes (also c.put_parameters.ensures.codes (no_size c.put_16.ensures body)))

-- `block_coding::put_before_parameters` meets its contract. Assumes nothing.
use Rattle.field_coding.proofs.Putting.{also, coded}
use Rattle.list_coding.specs.Operands.{values}
use Rattle.list_coding.proofs.There.{count_of}
use Rattle.block_coding.proofs.Forms.{before-parameters}
use Rattle.block_coding.proofs.put_before_parameters.Goals as goal

pub returns-clause-codes : goal.returns-clause-codes
returns-clause-codes c =
    let o = c.args.o in
    coded (before-parameters (values o) o.action.count (count_of o) _ _ c.saturating_sub.ensures c.number_at.ensures.value) (also c.put_text_at.ensures.codes (also c.put_16.ensures (also c.put_8.ensures c.put_flags.ensures)))

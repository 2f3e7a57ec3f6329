-- `block_coding::put_function` meets its contract. Assumes nothing.
use Rattle.lexemes.specs.Events.{body}
use Rattle.field_coding.proofs.Putting.{also, coded}
use Rattle.list_coding.specs.Operands.{values}
use Rattle.list_coding.proofs.There.{count_of}
use Rattle.block_coding.proofs.Forms.{no_size, function}
use Rattle.block_coding.proofs.put_function.Goals as goal

pub returns : goal.returns
returns c =
    let o = c.args.o in
    coded (function (values o) o.action.count (count_of o) _ c.saturating_sub.ensures) (also c.put_text_at.ensures.codes (also c.put_16.ensures (also c.put_texts.ensures.codes (no_size c.put_16-2.ensures body))))

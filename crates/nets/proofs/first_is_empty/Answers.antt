-- `nets::first_is_empty` meets its contract. Assumes nothing.
use mathlib.Core.Path.{◌∙◌}
use Rattle.nets.proofs.Turns.{no_operand, first_empty}
use Rattle.nets.proofs.first_is_empty.Goals as goal

pub returns-then-to-from : goal.returns-then-to-from
returns-then-to-from c =
    no_operand _ _ _ _ _ c.if-to-from.true

pub returns : goal.returns
returns c =
    c.is_empty.ensures ∙ first_empty _ _ _ _ _ _ _ _ c.if-to-from.false c.operand_in-operand.ensures c.token_in-token.ensures c.raw_text-raw.ensures.result_value

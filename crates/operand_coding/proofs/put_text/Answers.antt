-- `operand_coding::put_text` meets its contract. Assumes nothing.
use mathlib.Core.Path.{ap}
use mathlib.Core.List.{[], ◌∷◌}
use Rattle.action_records.specs.Fields.{STRING}
use Rattle.field_coding.proofs.Putting.{coded}
use Rattle.operand_coding.proofs.Worth.{string-text, no_text}
use Rattle.operand_coding.proofs.put_text.Goals as goal

pub returns-then-is_string-clause-codes : goal.returns-then-is_string-clause-codes
returns-then-is_string-clause-codes c =
    let a = c.args in
    coded (ap (λ w. STRING w ∷ []) (string-text a.text.now a.token _ c.is_string.ensures c.if-is_string.true _ c.raw_text.ensures.result_value)) c.put_string.ensures.codes

pub returns-clause-codes : goal.returns-clause-codes
returns-clause-codes c =
    let a = c.args in
    coded (ap (λ w. STRING w ∷ []) (no_text a.text.now a.token _ c.is_string.ensures c.if-is_string.false)) (record { puts = c.put_byte.ensures })

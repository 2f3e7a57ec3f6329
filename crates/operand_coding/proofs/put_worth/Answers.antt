-- `operand_coding::put_worth` meets its contract. Assumes nothing.
use mathlib.Core.Path.{ap, ◌∙◌}
use mathlib.Core.Option.{some}
use Rattle.movies.specs.Meaning.{meant}
use Rattle.action_records.specs.Operands.{pushed_as}
use Rattle.field_coding.proofs.Putting.{coded}
use Rattle.operand_coding.proofs.Worth.{value-is, no_value}
use Rattle.operand_coding.proofs.put_worth.Goals as goal

pub returns-in-Ok-clause-codes : goal.returns-in-Ok-clause-codes
returns-in-Ok-clause-codes c =
    let a = c.args in
    coded (ap (λ w. pushed_as (meant (some c.in-Ok.v) w)) c.raw_text.ensures.result_value ∙ ap pushed_as (value-is a.text.now a.token c.requires.held _ c.value.ensures _ c.in-Ok.is)) c.put_value.ensures.codes

pub returns-in-Err-clause-codes : goal.returns-in-Err-clause-codes
returns-in-Err-clause-codes c =
    let a = c.args in
    coded (ap pushed_as (no_value a.text.now a.token c.requires.held _ c.value.ensures _ c.in-Err.is)) c.put_8.ensures

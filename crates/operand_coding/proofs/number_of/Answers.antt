-- `operand_coding::number_of` meets its contract. Assumes nothing.
use mathlib.Core.Path.{ap, ◌∙◌}
use Rattle.movies.specs.Movie.{number_in}
use Rattle.tokens.specs.Tokens.{raw_text}
use Rattle.operand_coding.proofs.Worth.{value-is, no_value, number_anyway}
use native.Mathlib.Omega.{arith}
use Rattle.operand_coding.proofs.number_of.Goals as goal

pub returns-in-Ok : goal.returns-in-Ok
returns-in-Ok c =
    let a = c.args in
    record { value = c.number_in.ensures.value ∙ number_anyway c.in-Ok.v (raw_text a.text.now a.token) ∙ ap number_in (value-is a.text.now a.token c.requires _ c.value.ensures _ c.in-Ok.is); upper_bound = c.number_in.ensures.upper_bound }

pub returns-in-Err : goal.returns-in-Err
returns-in-Err c =
    let a = c.args in
    record { value = ap number_in (no_value a.text.now a.token c.requires _ c.value.ensures _ c.in-Err.is); upper_bound = omega arith }

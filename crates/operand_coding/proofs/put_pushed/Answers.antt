-- `operand_coding::put_pushed` meets its contract, arm by arm. Assumes nothing.
use mathlib.Core.Path.{ap, ◌∙◌}
use Rattle.values.specs.Values.{push_value}
use Rattle.movies.specs.Movie.{string}
use Rattle.movies.specs.Strings.{decoded}
use Rattle.action_records.specs.Operands.{pushed_as}
use Rattle.field_coding.proofs.Putting.{coded}
use Rattle.operand_coding.proofs.Worth.{kind-told}
use Rattle.operand_coding.proofs.put_pushed.Goals as goal

pub returns-in-String-clause-codes : goal.returns-in-String-clause-codes
unfolding push_value
returns-in-String-clause-codes c =
    let a = c.args in
    coded (ap (λ w. pushed_as (string (decoded w))) c.raw_text.ensures.result_value ∙ kind-told a.text.now a.token c.in-String.is) c.put_typed_string.ensures.codes

pub returns-in-Register-clause-codes : goal.returns-in-Register-clause-codes
unfolding push_value
returns-in-Register-clause-codes c =
    let a = c.args in
    coded (kind-told a.text.now a.token c.in-Register.is) c.put_typed.ensures

pub returns-in-Constant-clause-codes : goal.returns-in-Constant-clause-codes
unfolding push_value
returns-in-Constant-clause-codes c =
    let a = c.args in
    coded (kind-told a.text.now a.token c.in-Constant.is) c.put_constant.ensures.codes

-- `pcode::delta` meets its contract, arm by arm. Assumes nothing.
use borrow.Author.Rules.{rules}
use mathlib.Core.Path.{◌≡◌, ap, sym, ◌∙◌}
use mathlib.Core.Bool.{Bool, true, false, cond}
use lib.IntN.{pos}
use mir.Syntax.{w32}
use mir.ValLaws.{to_z-of_z}
use Rattle.actions.specs.Numbers.{number_of}
use Rattle.answers.specs.Answers.{accepted}
use Rattle.pcode.specs.Deltas.{delta_answer}
use Rattle.pcode.proofs.Deltas as laws
use borrow.Enum.Refused.{opened}
use Rattle.pcode.proofs.delta.Goals as goal

pub returns-then-values-gt65536 : goal.returns-then-values-gt65536
returns-then-values-gt65536 c = let a = c.args in laws.too_long a.name a.values a.name_is_empty c.if-values-gt65536.true

pub returns-in-Push : goal.returns-in-Push
returns-in-Push c =
    let a = c.args in
    laws.at_push a.name a.values a.name_is_empty c.if-values-gt65536.false c.in-Push.is

pub returns-in-DefineFunction : goal.returns-in-DefineFunction
returns-in-DefineFunction c =
    let a = c.args in
    laws.at-function a.name a.values a.name_is_empty c.if-values-gt65536.false c.from.result c.from.ensures c.in-DefineFunction.is

pub returns-in-CallFunction : goal.returns-in-CallFunction
unfolding number_of
returns-in-CallFunction c =
    let a = c.args in
    laws.at-undetermined a.name a.values a.name_is_empty c.if-values-gt65536.false c.in-CallFunction.in-CallFunction-own.keys3

pub returns-in_default : goal.returns-in_default
unfolding number_of
returns-in_default c =
    let a = c.args in
    ap accepted (to_z-of_z w32 c.fixed_delta.result (record { sfits = c.fixed_delta.type_inv }) ∙ c.fixed_delta.ensures)
    ∙ laws.at_others a.name a.values a.name_is_empty c.if-values-gt65536.false (opened c.in_default.in_default-own.keys4)

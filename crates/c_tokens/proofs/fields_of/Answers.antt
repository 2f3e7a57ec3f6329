-- `c_tokens::fields_of` meets its contract, case by case. Assumes nothing.
use borrow.Author.Rules.{rules}
use mathlib.Core.Path.{sym, ap, ◌∙◌}
use lib.IntN.{pos}
use mir.Syntax.{w32}
use mir.Val.{SFits}
use mir.ValLaws.{to_z_pos, to_z-of_z}
use Rattle.tokens.specs.Tokens.{span}
use Rattle.c_tokens.specs.Tokens.{fields_of, value_with}
use Rattle.c_tokens.proofs.fields_of.Goals as goal

pub returns-in-Null : goal.returns-in-Null
returns-in-Null c = c.value_with.ensures ∙ sym (ap fields_of c.in-Null.is)

pub returns-in-Undefined : goal.returns-in-Undefined
returns-in-Undefined c = c.value_with-in-Undefined.ensures ∙ sym (ap fields_of c.in-Undefined.is)

pub returns-in-String : goal.returns-in-String
returns-in-String c = c.value_with-in-String.ensures ∙ sym (ap fields_of c.in-String.is)

pub returns-in-Integer : goal.returns-in-Integer
returns-in-Integer c =
    let fits : SFits w32 c.in-Integer.n = search rules in
    c.value_with-in-Integer.ensures
    ∙ ap (λ n. value_with 3 n 0 (span 0 0)) (to_z-of_z w32 c.in-Integer.n (fits))
    ∙ sym (ap fields_of c.in-Integer.is)

pub returns-in-Float : goal.returns-in-Float
returns-in-Float c = c.value_with-in-Float.ensures ∙ ap (λ b. value_with 4 (pos 0) b (span 0 0)) c.bits_of.ensures ∙ sym (ap fields_of c.in-Float.is)

pub returns-in-True : goal.returns-in-True
returns-in-True c = c.value_with-in-True.ensures ∙ sym (ap fields_of c.in-True.is)

pub returns-in-False : goal.returns-in-False
returns-in-False c = c.value_with-in-False.ensures ∙ sym (ap fields_of c.in-False.is)

pub returns-in-Register : goal.returns-in-Register
returns-in-Register c =
    c.value_with-in-Register.ensures
    ∙ ap (λ n. value_with 7 n 0 (span 0 0)) (to_z_pos w32 c.in-Register.n (search rules))
    ∙ sym (ap fields_of c.in-Register.is)

pub returns-in-Constant : goal.returns-in-Constant
returns-in-Constant c =
    c.value_with-in-Constant.ensures
    ∙ ap (λ n. value_with 8 n 0 (span 0 0)) (to_z_pos w32 c.in-Constant.n (search rules))
    ∙ sym (ap fields_of c.in-Constant.is)

pub returns-in-Long : goal.returns-in-Long
returns-in-Long c = c.value_with-in-Long.ensures ∙ sym (ap fields_of c.in-Long.is)

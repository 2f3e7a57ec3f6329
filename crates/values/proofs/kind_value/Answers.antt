-- `values::kind_value` meets its contract, arm by arm. Assumes nothing.
use mathlib.Core.Path.{sym, ap, ◌∙◌}
use Rattle.values.specs.Values.{or_six, push_value}
use Rattle.values.proofs.Values.{no_value}
use Rattle.values.proofs.kind_value.Goals as goal

pub returns-in-String : goal.returns-in-String
unfolding push_value
returns-in-String c = let a = c.args in sym (ap (λ k. or_six (push_value k a.s.now a.raw)) c.in-String.is)

pub returns-in-Float : goal.returns-in-Float
unfolding push_value
returns-in-Float c = let a = c.args in c.float_value.ensures ∙ sym (ap (λ k. or_six (push_value k a.s.now a.raw)) c.in-Float.is)

pub returns-in-Integer : goal.returns-in-Integer
unfolding push_value
returns-in-Integer c = let a = c.args in c.integer_value.ensures ∙ sym (ap (λ k. or_six (push_value k a.s.now a.raw)) c.in-Integer.is)

pub returns-in-Register : goal.returns-in-Register
unfolding push_value
returns-in-Register c = let a = c.args in sym (ap (λ k. or_six (push_value k a.s.now a.raw)) c.in-Register.is)

pub returns-in-Constant : goal.returns-in-Constant
unfolding push_value
returns-in-Constant c = let a = c.args in sym (ap (λ k. or_six (push_value k a.s.now a.raw)) c.in-Constant.is)

pub returns-in-Identifier : goal.returns-in-Identifier
unfolding push_value
returns-in-Identifier c = let a = c.args in c.word_value.ensures ∙ sym (ap (λ k. or_six (push_value k a.s.now a.raw)) c.in-Identifier.is)

pub returns-in-True : goal.returns-in-True
unfolding push_value
returns-in-True c = let a = c.args in sym (ap (λ k. or_six (push_value k a.s.now a.raw)) c.in-True.is)

pub returns-in-False : goal.returns-in-False
unfolding push_value
returns-in-False c = let a = c.args in sym (ap (λ k. or_six (push_value k a.s.now a.raw)) c.in-False.is)

pub returns-in-Null : goal.returns-in-Null
unfolding push_value
returns-in-Null c = let a = c.args in sym (ap (λ k. or_six (push_value k a.s.now a.raw)) c.in-Null.is)

pub returns-in-Undefined : goal.returns-in-Undefined
unfolding push_value
returns-in-Undefined c = let a = c.args in sym (ap (λ k. or_six (push_value k a.s.now a.raw)) c.in-Undefined.is)

pub returns-in_default : goal.returns-in_default
returns-in_default c = let a = c.args in no_value a.kind a.s.now a.raw c.in_default.in_default-own.keys11

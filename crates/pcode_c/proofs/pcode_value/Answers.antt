-- `pcode_c::pcode_value` meets its contract. Assumes nothing.
use borrow.Author.Rules.{rules}
use mathlib.Core.Path.{ap, ◌∙◌}
use Rattle.values.specs.Values.{value_answer}
use Rattle.c_tokens.specs.Tokens.{returned, integer_after, value_after}
use Rattle.pcode_c.proofs.pcode_value.Goals as goal

pub returns : goal.returns
returns c =
    let w = c in
    let a = w.args in
    let t = c.tell_value.ensures in
    let e = w.value-answer.ensures ∙ ap (value_answer a.text.now) w.token_with.ensures in
    record { value = t.value ∙ ap returned e; integer_after = t.integer_after ∙ ap (λ x. integer_after x a.integer.now) e; out_after = t.out_after ∙ ap (λ x. value_after x a.out.now) e }

-- `pcode_c::pcode_delta` meets its contract. Assumes nothing.
use borrow.Author.Rules.{rules}
use mathlib.Core.Path.{ap, ◌∙◌}
use Rattle.pcode.specs.Deltas.{delta_answer}
use Rattle.c_tokens.specs.Tokens.{returned, delta_after}
use Rattle.pcode_c.proofs.pcode_delta.Goals as goal

pub returns : goal.returns
returns c =
    let w = c in
    let a = w.args in
    let e = w.delta-answer.ensures ∙ ap (λ n. delta_answer n a.values a.name_is_empty) w.action_at.ensures in
    record { value = c.tell_delta.ensures.value ∙ ap returned e; out_after = c.tell_delta.ensures.out_after ∙ ap (λ x. delta_after x a.out.now) e }

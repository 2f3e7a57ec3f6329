-- `pcode_c::pcode_lex` meets its contract. Assumes nothing.
use borrow.Author.Rules.{rules}
use mathlib.Core.Path.{ap, ◌∙◌}
use Rattle.c_tokens.specs.Tokens.{returned, tokens_after}
use Rattle.pcode_c.proofs.pcode_lex.Goals as goal

pub returns : goal.returns
returns c =
    let l = c.lex-answer in
    let a = c.args in
    let t = c.tell_tokens.ensures in
    let e = l.ensures.answered in
    record { value = t.value ∙ ap returned e; out_after = t.out_after ∙ ap (λ x. tokens_after x a.out.now) e; table_after = l.ensures.table }

-- `c_tokens::tell_tokens` meets its contract. Assumes nothing.
use borrow.Author.Rules.{rules}
use mathlib.Core.Path.{sym, ap, ◌∙◌}
use lib.ListN.{set}
use Rattle.lexer.specs.Lexing.{answer}
use Rattle.c_tokens.specs.Tokens.{returned, tokens_after}
use Rattle.c_tokens.proofs.tell_tokens.Goals as goal

pub returns-in-Ok : goal.returns-in-Ok
returns-in-Ok c =
    let old = c.args.out.now in
    let e = ap answer (sym c.in-Ok.is) in
    record { value = ap returned e; out_after = ap (λ a. tokens_after a old) e }

pub returns-in-Err : goal.returns-in-Err
returns-in-Err c =
    let old = c.args.out.now in
    let e = ap answer (sym c.in-Err.is) in
    record { value = c.refusal_number.ensures ∙ ap returned e; out_after = ap (set old 0) c.refusal_place.ensures ∙ ap (λ a. tokens_after a old) e }

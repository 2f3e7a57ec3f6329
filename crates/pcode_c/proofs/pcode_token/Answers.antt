-- `pcode_c::pcode_token` meets its contract. Assumes nothing.
use borrow.Author.Rules.{rules}
use mathlib.Core.Path.{ap, ◌∙◌}
use Rattle.tokens.specs.declared.Token.{Token}
use Rattle.c_tokens.specs.Tokens.{token_after}
use Rattle.pcode_c.proofs.pcode_token.Goals as goal

pub returns : goal.returns
returns c =
    let w = c in
    c.tell_token.ensures ∙ ap (λ (x : Token). token_after x w.args.out.now) w.token_of.ensures

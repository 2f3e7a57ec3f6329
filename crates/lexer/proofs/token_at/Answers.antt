-- `lexer::token_at` meets its contract. Assumes nothing.
use Rattle.first_token.proofs.Firsts.{at_byte, at-byte-fits}
use Rattle.lexer.proofs.token_at.Goals as goal

pub returns : goal.returns
returns c =
    let f = c in (
      at_byte f.args.text.now f.args.at f.requires _ c.first_token.ensures,
      at-byte-fits f.args.text.now f.args.at f.requires _ c.first_token.ensures,
    )

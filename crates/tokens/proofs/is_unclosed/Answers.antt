-- `tokens::is_unclosed` meets its contract. Assumes nothing.
use Rattle.tokens.proofs.Unclosed.{word_told}
use Rattle.tokens.proofs.is_unclosed.Goals as goal

pub returns : goal.returns
returns c =
    word_told c.args.word

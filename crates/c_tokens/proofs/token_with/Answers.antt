-- `c_tokens::token_with` meets its contract. Assumes nothing.
use borrow.Author.Rules.{rules}
use Rattle.c_tokens.proofs.token_with.Goals as goal

pub returns : goal.returns
returns c = cc

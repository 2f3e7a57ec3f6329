-- `c_tokens::name_of` meets its contract. Assumes nothing.
use borrow.Author.Rules.{rules}
use mathlib.Core.Path.{ap, ◌∙◌}
use native.Mathlib.Omega.{arith}
use Rattle.words.specs.Spellings.{spelling_of}
use Rattle.c_tokens.proofs.Names.{no_name, named}
use Rattle.c_tokens.proofs.name_of.Goals as goal

pub returns-then-action-ge100 : goal.returns-then-action-ge100
returns-then-action-ge100 c = no_name c.args.action (omega arith)

pub returns : goal.returns
returns c =
    c.spelling.ensures
    ∙ ap spelling_of c.action_at.ensures
    ∙ named c.args.action (omega arith)

-- `level_trees::is_block_of` meets its contract. Assumes nothing.
use borrow.Author.Rules.{rules}
use mathlib.Core.Path.{ap, ◌∙◌}
use Rattle.entries.specs.declared.Level.{Level}
use Rattle.level_trees.specs.Held.{is_block_of}
use Rattle.level_trees.proofs.is_block_of.Goals as goal

pub returns : goal.returns
returns c =
    c.owned_by.ensures
    ∙ ap (λ (l : Level). is_block_of l.block c.args.action) c.level_in-entry.ensures

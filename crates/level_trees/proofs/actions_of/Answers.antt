-- `level_trees::actions_of` meets its contract. Assumes nothing.
use borrow.Author.Rules.{rules}
use mathlib.Core.Path.{ap}
use Rattle.entries.specs.declared.Level.{Level}
use Rattle.level_trees.proofs.actions_of.Goals as goal

pub returns : goal.returns
returns c =
    ap (λ (l : Level). l.actions) c.level_in.ensures

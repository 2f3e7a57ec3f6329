-- `wanted::wanted_of_parameter` meets its contract. Assumes nothing.
use borrow.Author.Rules.{rules}
use Rattle.wanted.proofs.Numbered.{inside, outside}
use Rattle.wanted.proofs.wanted_of_parameter.Goals as goal

pub returns-then-index-count : goal.returns-then-index-count
returns-then-index-count c =
    inside _ _ _ c.if-index-count.true

pub returns-else-index-count : goal.returns-else-index-count
returns-else-index-count c =
    outside _ _ _ c.if-index-count.false

-- `wanted::only_first` meets its contract. Assumes nothing.
use borrow.Author.Rules.{rules}
use mathlib.Core.Path.{sym}
use Rattle.wanted.proofs.Numbered.{past_one}
use Rattle.wanted.proofs.only_first.Goals as goal

pub returns-else-number-eq0 : goal.returns-else-number-eq0
returns-else-number-eq0 c =
    sym (past_one _ _ c.if-number-eq0.false)

-- `wanted::of_two` meets its contract. Assumes nothing.
use borrow.Author.Rules.{rules}
use mathlib.Core.Path.{sym}
use Rattle.wanted.proofs.Numbered.{past_two}
use Rattle.wanted.proofs.of_two.Goals as goal

pub returns-in_default : goal.returns-in_default
returns-in_default c =
    sym (past_two _ _ _ c.in_default.in_default-own.rest)

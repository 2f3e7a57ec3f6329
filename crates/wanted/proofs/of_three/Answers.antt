-- `wanted::of_three` meets its contract. Assumes nothing.
use mathlib.Core.Path.{sym}
use Rattle.wanted.proofs.Numbered.{first_of, second_of_lem, third_of, past_three}
use Rattle.wanted.proofs.of_three.Goals as goal

pub returns-in-0 : goal.returns-in-0
returns-in-0 c =
    search first_of

pub returns-in-1 : goal.returns-in-1
returns-in-1 c =
    search second_of_lem

pub returns-in-2 : goal.returns-in-2
returns-in-2 c =
    search third_of

pub returns-in_default : goal.returns-in_default
returns-in_default c =
    sym (past_three _ _ _ _ c.in_default.in_default-own.rest)

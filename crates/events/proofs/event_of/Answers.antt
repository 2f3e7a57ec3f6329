-- `events::event_of` meets its contract. Assumes nothing.
use borrow.Author.Rules.{rules}
use native.Mathlib.Omega.{arith}
use Rattle.laws.proofs.Rest.{rest}
use Rattle.events.proofs.Words.{of-kind, at_last}
use Rattle.events.proofs.event_of.Goals as goal

pub returns-in-0 : goal.returns-in-0
returns-in-0 c =
    record { value = search (rules, of-kind); holds = omega arith }

pub returns-in-1 : goal.returns-in-1
returns-in-1 c =
    record { value = search (rules, of-kind); holds = omega arith }

pub returns-in-2 : goal.returns-in-2
returns-in-2 c =
    record { value = search (rules, of-kind); holds = omega arith }

pub returns-in-3 : goal.returns-in-3
returns-in-3 c =
    record { value = search (rules, of-kind); holds = omega arith }

pub returns-in_default : goal.returns-in_default
returns-in_default c =
    record { value = at_last _ (rest _ 4 c.in_default.in_default-own.rest); holds = tt }

-- `wanted::wanted_of_function` meets its contract. Assumes nothing.
use borrow.Author.Rules.{rules}
use mathlib.Core.Path.{sym, ◌∙◌}
use mathlib.Core.List.{[], ◌∷◌}
use lib.ListN.{replicate}
use Rattle.laws.proofs.Rest.{rest}
use Rattle.wanted.proofs.Numbered.{behind}
use Rattle.wanted.specs.declared.Wanted.TheVariants as W
use Rattle.wanted.specs.Wanted.{wanted_at}
use Rattle.wanted.proofs.wanted_of_function.Goals as goal

pub overflow_sub-number : goal.overflow_sub-number
unfolding wanted_at
overflow_sub-number c =
    search rules

pub wanted_of_parameter-requires : goal.wanted_of_parameter-requires
unfolding wanted_at
wanted_of_parameter-requires c =
    search rules

pub returns-in-0 : goal.returns-in-0
unfolding wanted_at
returns-in-0 c =
    search rules

pub returns-in-1 : goal.returns-in-1
unfolding wanted_at
returns-in-1 c =
    search rules

pub returns-in_default : goal.returns-in_default
unfolding wanted_at
returns-in_default c =
    let a = c.args in c.wanted_of_parameter.ensures ∙ sym (behind (W.String ∷ W.Count ∷ []) (replicate a.count W.Parameter) a.number (rest _ 2 c.in_default.in_default-own.rest))

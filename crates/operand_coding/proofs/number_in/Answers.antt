-- `operand_coding::number_in` meets its contract. Assumes nothing.
use borrow.Author.Rules.{rules}
use mathlib.Core.Path.{sym, ap, ◌∙◌}
use mathlib.Core.List.{[]}
use mathlib.Core.Option.{some}
use mir.ValLaws.{to_z-of_z}
use mir.Syntax.{w32}
use mir.Val.{SFits}
use Rattle.movies.specs.Movie.{integer, number_in}
use Rattle.movies.specs.Meaning.{meant}
use Rattle.operand_coding.proofs.number_in.Goals as goal

pub returns-in-Integer : goal.returns-in-Integer
returns-in-Integer c =
    let fits : SFits w32 c.in-Integer.n = search rules in
    record { value = c.natural.ensures.value ∙ ap (λ z. number_in (integer z)) (to_z-of_z w32 c.in-Integer.n (fits)) ∙ sym (ap (λ x. number_in (meant (some x) [])) c.in-Integer.is); upper_bound = c.natural.ensures.upper_bound }

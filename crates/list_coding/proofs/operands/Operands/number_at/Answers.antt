-- `list_coding::Operands::number_at` meets its contract. Assumes nothing.
use mathlib.Core.Path.{ap, ◌∙◌}
use Rattle.movies.specs.Movie.{number_in}
use Rattle.list_coding.proofs.There.{held_at, means_at}
use Rattle.list_coding.proofs.operands.Operands.number_at.Goals as goal

pub number_of-requires : goal.number_of-requires
number_of-requires c = held_at c.args.self c.args.k c.token_at.ensures

pub returns-clause-value : goal.returns-clause-value
returns-clause-value c = c.number_of.ensures.value ∙ ap number_in (means_at c.args.self c.args.k c.token_at.ensures)

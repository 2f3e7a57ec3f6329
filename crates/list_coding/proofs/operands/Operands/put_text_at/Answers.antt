-- `list_coding::Operands::put_text_at` meets its contract. Assumes nothing.
use mathlib.Core.Path.{ap}
use mathlib.Core.List.{[], ◌∷◌}
use Rattle.movies.specs.Movie.{Value}
use Rattle.action_records.specs.Operands.{text}
use Rattle.field_coding.proofs.Putting.{coded}
use Rattle.list_coding.proofs.There.{means_at}
use Rattle.list_coding.proofs.operands.Operands.put_text_at.Goals as goal

pub returns-clause-codes : goal.returns-clause-codes
returns-clause-codes c = coded (ap (λ (v : Value). text v ∷ []) (means_at c.args.self c.args.k c.token_at.ensures)) c.put_text.ensures.codes

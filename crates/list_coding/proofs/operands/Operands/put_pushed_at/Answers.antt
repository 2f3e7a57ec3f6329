-- `list_coding::Operands::put_pushed_at` meets its contract. Assumes nothing.
use mathlib.Core.Path.{ap}
use Rattle.action_records.specs.Operands.{pushed_as}
use Rattle.field_coding.proofs.Putting.{coded}
use Rattle.list_coding.proofs.There.{held_at, means_at}
use Rattle.list_coding.proofs.operands.Operands.put_pushed_at.Goals as goal

pub put_pushed-requires-clause-held : goal.put_pushed-requires-clause-held
put_pushed-requires-clause-held c = held_at c.args.self c.args.k c.token_at.ensures

pub returns-clause-codes : goal.returns-clause-codes
returns-clause-codes c = coded (ap pushed_as (means_at c.args.self c.args.k c.token_at.ensures)) c.put_pushed.ensures.codes

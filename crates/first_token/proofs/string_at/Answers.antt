-- `first_token::string_at` meets its contract. Assumes nothing.
use mathlib.Core.Bool.{false}
use native.Mathlib.Omega.{arith}
use Rattle.scanner.proofs.Runs.{stop-fits}
use Rattle.first_token.proofs.string_at.Goals as goal

pub overflow_add-result : goal.overflow_add-result
overflow_add-result c = omega (arith, c.string_stop-e.ensures, stop-fits false c.args.s.now 1 c.requires)

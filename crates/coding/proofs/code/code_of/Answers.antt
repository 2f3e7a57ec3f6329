-- `coding::code::code_of` meets its contract. The table lists the codes. Assumes nothing.
use native.Mathlib.Omega.{arith}
use Rattle.actions.specs.Numbers.{number_of}
use Rattle.actions.proofs.Numbers.{number_below}
use Rattle.coding.proofs.Records.{at-number}
use Rattle.coding.proofs.code.code_of.Goals as goal

pub bounds-n : goal.bounds-n
bounds-n c = omega (arith, number_below c.args.name, c.action_number-n.ensures)

pub returns : goal.returns
unfolding number_of
returns c = at-number c.action_number-n.result c.args.name c.action_number-n.ensures

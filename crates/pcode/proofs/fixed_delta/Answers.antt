-- `pcode::fixed_delta` meets its contract: the table lists the rule, which antt computes. Assumes nothing.
use borrow.Author.Rules.{rules}
use native.Mathlib.Omega.{arith}
use Rattle.actions.specs.Numbers.{number_of}
use Rattle.actions.proofs.Numbers.{number_below}
use Rattle.pcode.specs.Deltas.{fixed_delta}
use Rattle.pcode.proofs.Deltas.{at-number}
use Rattle.pcode.proofs.fixed_delta.Goals as goal

pub offset_bounds-n : goal.offset_bounds-n
offset_bounds-n c = omega (arith, number_below c.args.name)

pub bounds-n : goal.bounds-n
bounds-n c = omega (arith, number_below c.args.name)

pub returns : goal.returns
unfolding fixed_delta number_of
returns c = at-number c.action_number-n.result c.args.name c.action_number-n.ensures

-- `operands::repeat` meets its contract. Assumes nothing.
use mathlib.Core.Path.{◌≡◌}
use lib.ListN.{length}
use Rattle.operands.proofs.Forms.{Repeating}
use Rattle.operands.specs.Contract.{Fine}
use Rattle.operands.proofs.repeat.Given as goal

abbrev pub invariant-loop : goal.invariant-loop
invariant-loop l = Repeating l.m l.n l.counter l.text l.s l.initial.events l.events l.initial.p l.p × Fine l.text l.s l.p × (length l.events ≡ length l.initial.events)

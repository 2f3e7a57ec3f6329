-- `operands::more_values` meets its contract. Assumes nothing.
use mathlib.Core.Path.{◌≡◌}
use Prim.Native.Nat.{◌-◌}
use lib.ListN.{length}
use Rattle.operands.proofs.Forms.{Listing}
use Rattle.operands.specs.Contract.{Fine}
use Rattle.operands.proofs.more_values.Given as goal

abbrev pub invariant-loop-m : goal.invariant-loop-m
invariant-loop-m l = Listing l.m l.text l.s l.initial.events l.events l.initial.p l.p × Fine l.text l.s l.p × (length l.events ≡ length l.initial.events)

abbrev pub decreases-loop-m : goal.decreases-loop-m
decreases-loop-m l = length l.s - l.p.at

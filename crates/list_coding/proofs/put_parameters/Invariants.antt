-- `list_coding::put_parameters` meets its contract. Assumes nothing.
use Prim.Native.Nat.{◌+◌, ◌*◌}
use Rattle.action_records.specs.Operands.{parameters}
use Rattle.list_coding.specs.Operands.{values}
use Rattle.list_coding.proofs.Turns.{Taken}
use Rattle.list_coding.proofs.put_parameters.Given as goal

abbrev pub invariant-loop-pair : goal.invariant-loop-pair
invariant-loop-pair l = Taken parameters (values l.o) 12 l.initial.w l.w (12 + 2 * l.pair)

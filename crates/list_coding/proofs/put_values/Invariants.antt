-- `list_coding::put_values` meets its contract. Assumes nothing.
use Rattle.action_records.specs.Operands.{pushed_as}
use Rattle.list_coding.specs.Operands.{values}
use Rattle.list_coding.proofs.Turns.{Taken, each}
use Rattle.list_coding.proofs.put_values.Given as goal

abbrev pub invariant-loop-k : goal.invariant-loop-k
invariant-loop-k l = Taken (each pushed_as) (values l.o) 0 l.initial.w l.w l.k

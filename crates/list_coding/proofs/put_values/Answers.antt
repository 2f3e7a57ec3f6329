-- `list_coding::put_values` meets its contract. Assumes nothing.
use native.Mathlib.Omega.{arith}
use Rattle.action_records.specs.Operands.{pushed_as}
use Rattle.field_coding.proofs.Putting.{coded}
use Rattle.list_coding.specs.Operands.{values}
use Rattle.list_coding.proofs.There.{count_of}
use Rattle.list_coding.proofs.Turns.{begin, one_by_one, all_taken, pushed_each}
use Rattle.list_coding.proofs.put_values.Goals as goal

pub loop-k-init : goal.loop-k-init
loop-k-init c = begin

pub put_pushed_at-requires : goal.put_pushed_at-requires
put_pushed_at-requires c = omega (arith, c.loop-k.invariant.near, c.loop-k-test.true, c.args.o.small.count, c.requires)

pub loop-k-preserved : goal.loop-k-preserved
loop-k-preserved c = one_by_one pushed_as c.loop-k.invariant (count_of c.args.o) c.loop-k-test.true c.put_pushed_at.ensures.codes c.put_pushed_at.ensures.adds

pub returns : goal.returns
returns c = coded (pushed_each (values c.args.o)) (all_taken pushed_as c.loop-k.invariant (count_of c.args.o) c.loop-k-test.false)

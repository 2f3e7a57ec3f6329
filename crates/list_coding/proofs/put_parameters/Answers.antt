-- `list_coding::put_parameters` meets its contract. Assumes nothing.
use Prim.Native.Nat.{◌+◌, ◌*◌}
use native.Mathlib.Omega.{arith}
use Rattle.list_coding.specs.Operands.{values}
use Rattle.list_coding.proofs.There.{count_of}
use Rattle.list_coding.proofs.Turns.{begin, two_by_two, ended, no_two_left}
use Rattle.list_coding.proofs.put_parameters.Goals as goal

pub loop-pair-init : goal.loop-pair-init
loop-pair-init c = begin

pub put_8-requires : goal.put_8-requires
put_8-requires c = omega (arith, c.loop-pair.invariant.near, c.loop-pair-test.true, c.saturating_sub-pair-end.ensures, c.args.o.small.count, c.requires)

pub put_text_at-requires : goal.put_text_at-requires
put_text_at-requires c = omega (arith, c.loop-pair.invariant.near, c.loop-pair-test.true, c.saturating_sub-pair-end.ensures, c.args.o.small.count, c.requires, c.put_8.ensures.puts.end)

pub loop-pair-preserved : goal.loop-pair-preserved
loop-pair-preserved c =
    two_by_two c.loop-pair.invariant (count_of c.args.o) (omega (arith, c.loop-pair-test.true, c.saturating_sub-pair-end.ensures)) c.number_at.ensures.value c.put_8.ensures
    c.put_text_at.ensures.codes (omega (arith, c.put_8.ensures.puts.end, c.put_text_at.ensures.adds)) (omega arith)

pub returns : goal.returns
returns c =
    let o = c.loop-pair in
    let n = count_of c.args.o in
    let e = c.saturating_sub-pair-end.ensures in
    record {
      codes = ended o.invariant (no_two_left (values c.args.o) (12 + 2 * o.pair) (omega (arith, n, c.loop-pair-test.false, e)));
      adds = omega (arith, o.invariant.near, c.loop-pair.auto.pair-end, e, c.args.o.small.count);
    }

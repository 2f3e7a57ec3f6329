-- `list_coding::put_texts` meets its contract. Assumes nothing.
use native.Mathlib.Omega.{arith}
use lib.ListN.{drop}
use mathlib.Core.List.{[], ◌∷◌}
use Rattle.movies.specs.Movie.{Value}
use Rattle.action_records.specs.Operands as R
use Rattle.field_coding.proofs.Putting.{coded}
use Rattle.list_coding.specs.Operands.{values}
use Rattle.list_coding.proofs.There.{count_of}
use Rattle.list_coding.proofs.Turns.{begin, one_by_one, all_taken, text_each}
use Rattle.list_coding.proofs.put_texts.Goals as goal

pub loop-k-init : goal.loop-k-init
loop-k-init c = begin

pub put_text_at-requires : goal.put_text_at-requires
put_text_at-requires c = omega (arith, c.loop-k.invariant.near, c.loop-k-test.true, c.args.o.small.count, c.requires.1)

pub loop-k-preserved : goal.loop-k-preserved
loop-k-preserved c = one_by_one (λ (v : Value). R.text v ∷ []) c.loop-k.invariant (count_of c.args.o) c.loop-k-test.true c.put_text_at.ensures.codes (omega (arith, c.put_text_at.ensures.adds))

pub returns : goal.returns
returns c =
    let o = c.loop-k in
    let n = count_of c.args.o in
    record { codes = coded (text_each (drop c.args.from (values c.args.o))) (all_taken (λ (v : Value). R.text v ∷ []) o.invariant n c.loop-k-test.false); adds = omega (arith, o.invariant.near, o.invariant.inside, n, c.args.o.small.count) }

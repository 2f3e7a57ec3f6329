-- `numbers::number_up_to` meets its contract. Assumes nothing.
use mathlib.Core.Path.{ap, ◌∙◌}
use native.Mathlib.Omega.{arith}
use Rattle.numbers.specs.Integers.{up_to, value_of}
use Rattle.numbers.proofs.Integers as laws
use Rattle.numbers.proofs.number_up_to.Goals as goal

pub returns-then-top-n : goal.returns-then-top-n
returns-then-top-n c =
    let l = c.loop-b in
    let a = c.args in
    laws.above a.top (value_of a.s.now)
    (laws.value_above a.s.now l.n l.b-index l.invariant.1 _ (omega arith) c.with_byte-n.ensures a.top c.if-top-n.true)

pub loop-b-preserved : goal.loop-b-preserved
loop-b-preserved c =
    let l = c.loop-b in
    (c.if-top-n.false, laws.value-next c.args.s.now l.n l.b-index l.invariant.1 _ (omega arith) c.with_byte-n.ensures)

pub returns : goal.returns
returns c =
    let l = c.loop-b in
    let a = c.args in
    laws.at_most a.top l.n l.invariant.0 ∙ ap (up_to a.top) (laws.value-end a.s.now l.n l.b-index l.invariant.1 (omega arith))

-- `utf8::valid_up_to` meets its contract: the count so far, and that of what is left. Assumes nothing.
use native.Mathlib.Omega.{arith}
use Rattle.utf8.proofs.Valid as laws
use Rattle.utf8.proofs.valid_up_to.Goals as goal

pub loop-at-init : goal.loop-at-init
loop-at-init c = (c.ascii_front-at.ensures.inside, c.ascii_front-at.ensures.counts)

pub returns-then-n-eq0 : goal.returns-then-n-eq0
returns-then-n-eq0 c = laws.none-here _ c.loop-at.at c.loop-at.invariant.1 _ c.char_len-n.ensures c.if-n-eq0.true

pub overflow_add-at : goal.overflow_add-at
overflow_add-at c = omega (arith, laws.inside _ c.loop-at.at c.loop-at.invariant.1 _ c.char_len-n.ensures c.loop-at.invariant.0)

pub loop-at-preserved : goal.loop-at-preserved
loop-at-preserved c =
    let s = c.loop-at in (
      laws.inside _ s.at s.invariant.1 _ c.char_len-n.ensures s.invariant.0,
      laws.some-here _ s.at s.invariant.1 _ c.char_len-n.ensures (omega arith),
    )

pub returns : goal.returns
returns c = laws.end c.args.text.now c.loop-at.at c.loop-at.invariant.1 c.loop-at-test.false

-- Each byte adds what it counts for; behind the last one nothing is left.
use Rattle.std.proofs.Common.{arith, length, not, ◌≤◌}
use Rattle.places.proofs.Characters as laws
use Rattle.places.proofs.code_points.Goals as goal

pub loop-b-preserved : goal.loop-b-preserved
loop-b-preserved c =
    let l = c.loop-b in
    let more = laws.one_more c.args.text.now l.b-index l.n l.invariant.1 c.from-n.result c.is_tail.result c.loop-b-test.true c.from-n.ensures c.is_tail.ensures in
    (omega (arith, c.from-n.ensures, laws.one_at_most (not c.is_tail.result)), more)

pub returns : goal.returns
returns c =
    let l = c.loop-b in
    let whole : length c.args.text.now ≤ l.b-index = omega arith in
    (laws.all c.args.text.now l.b-index l.n l.invariant.1 whole, omega arith)

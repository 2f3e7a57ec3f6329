use Rattle.std.proofs.Common.{◌≡◌}
use Rattle.places.specs.Places.{line_at}
use Rattle.showing.proofs.action.put_actions.Given as goal

abbrev pub invariant-loop-i : goal.invariant-loop-i
invariant-loop-i l = l.p.line ≡ line_at l.of.text.now l.p.byte

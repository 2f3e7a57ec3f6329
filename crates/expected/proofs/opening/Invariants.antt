use Rattle.std.proofs.Common.{◌+◌, ◌≤◌}
use Rattle.expected.proofs.opening.Given as goal

abbrev pub invariant-loop-i : goal.invariant-loop-i
invariant-loop-i l = l.closed + l.i ≤ l.index

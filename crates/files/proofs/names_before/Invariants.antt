use Rattle.std.proofs.Common.{◌≤◌}
use Rattle.files.proofs.names_before.Given as goal

abbrev pub invariant-loop-i : goal.invariant-loop-i
invariant-loop-i l = l.before ≤ l.i

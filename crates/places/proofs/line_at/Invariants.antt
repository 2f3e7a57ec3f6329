-- The line ends so far, and one.
use Rattle.std.proofs.Common.{◌≡◌, ◌+◌, ◌≤◌}
use Rattle.places.specs.Places.{line_ends}
use Rattle.places.proofs.line_at.Given as goal

abbrev pub invariant-loop-i : goal.invariant-loop-i
invariant-loop-i l = (l.line ≤ l.i + 1) × (l.line ≡ line_ends l.text l.i + 1)

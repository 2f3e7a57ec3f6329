-- The count so far, and that of what is left.
use Rattle.std.proofs.Common.{◌≡◌, ◌+◌, ◌≤◌, drop}
use Rattle.places.specs.Places.{code_points}
use Rattle.places.proofs.code_points.Given as goal

abbrev pub invariant-loop-b : goal.invariant-loop-b
invariant-loop-b l = (l.n ≤ l.b-index) × (code_points l.text ≡ l.n + code_points (drop l.b-index l.text))

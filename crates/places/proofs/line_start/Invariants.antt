-- The line of the byte so far starts where that of the first does.
use Rattle.std.proofs.Common.{◌≡◌}
use Rattle.places.specs.Places.{line_start, place_in}
use Rattle.places.proofs.line_start.Given as goal

abbrev pub invariant-loop-i : goal.invariant-loop-i
invariant-loop-i l = line_start l.text (place_in l.text l.at) ≡ line_start l.text l.i

use Rattle.std.proofs.Common.{◌≤◌, ◌≡◌}
use Rattle.places.specs.Places.{line_at}
use Rattle.reporting.proofs.warning.print_warnings.Given as goal

abbrev pub invariant-loop-word : goal.invariant-loop-word
invariant-loop-word l = (l.p.line ≡ line_at l.text l.p.byte) × (l.n ≤ l.word-index)

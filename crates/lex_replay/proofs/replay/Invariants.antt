use Rattle.std.proofs.Common.{◌-◌, ◌≤◌, length}
use Rattle.lex_replay.proofs.replay.Given as goal

abbrev pub invariant-loop-at : goal.invariant-loop-at
invariant-loop-at l = (l.good ≤ l.at) × (l.texts ≤ l.at)

abbrev pub decreases-loop-at : goal.decreases-loop-at
decreases-loop-at l = length l.initial.list - l.at

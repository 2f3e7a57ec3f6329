use Rattle.std.proofs.Common.{◌-◌, length}
use Rattle.read_replay.proofs.replay.Given as goal

abbrev pub decreases-loop-at : goal.decreases-loop-at
decreases-loop-at l = length l.initial.list - l.at

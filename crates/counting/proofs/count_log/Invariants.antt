-- `counting::count_log` meets its contract. Assumes nothing.
use Rattle.counting.proofs.Counts.{Done}
use Rattle.counting.proofs.count_log.Given as goal

abbrev pub invariant-loop-word : goal.invariant-loop-word
invariant-loop-word l = Done l.log l.actions l.labels l.operands l.levels l.word-index

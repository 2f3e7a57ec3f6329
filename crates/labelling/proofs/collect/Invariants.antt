-- `labelling::collect` meets its contract. Assumes nothing.
use Rattle.labelling.proofs.Turns.{Done}
use Rattle.labelling.proofs.collect.Given as goal

abbrev pub invariant-loop-word : goal.invariant-loop-word
invariant-loop-word l = Done l.log l.initial.own l.initial.named l.initial.n l.own l.named l.n l.word-index

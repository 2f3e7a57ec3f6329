-- After i turns `out` holds the labels of the first i words, and the index their chains.
use Rattle.labels.proofs.Turns.{Going}
use Rattle.labels.proofs.merge_labels.Given as goal

abbrev pub invariant-loop-i : goal.invariant-loop-i
invariant-loop-i l = Going l.text l.s l.words l.n l.initial.out l.out l.chains l.t l.i

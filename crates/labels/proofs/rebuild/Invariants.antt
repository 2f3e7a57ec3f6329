-- After j turns the index has the chains of the first j words.
use Rattle.std.proofs.Common.{take}
use Rattle.labels.specs.Index.{ChainsOf}
use Rattle.labels.proofs.rebuild.Given as goal

abbrev pub invariant-loop-j : goal.invariant-loop-j
invariant-loop-j l = ChainsOf l.text l.s l.seed (take l.j l.out) l.index

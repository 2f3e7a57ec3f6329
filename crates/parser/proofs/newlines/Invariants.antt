-- `parser::newlines` meets its contract. Assumes nothing.
use Rattle.parser.proofs.Leaves.{Skipped}
use Rattle.parser.proofs.newlines.Given as goal

abbrev pub invariant-loop-p : goal.invariant-loop-p
invariant-loop-p l = Skipped l.text l.s l.at l.p

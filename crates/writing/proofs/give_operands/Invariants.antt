-- What is given so far leads to where all leads.
use Rattle.writing.proofs.Gather.{Giving}
use Rattle.writing.proofs.give_operands.Given as goal

abbrev pub invariant-loop-i : goal.invariant-loop-i
invariant-loop-i l = Giving l.s l.log l.from l.action l.at l.initial.operands l.operands l.depth l.end l.unclosed l.i

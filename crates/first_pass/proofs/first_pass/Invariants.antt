-- `first_pass::first_pass` meets its contract: after i turns no action before i has a fault. Assumes nothing.
use Rattle.first_pass.proofs.Turns.{Going}
use Rattle.first_pass.proofs.first_pass.Given as goal

abbrev pub invariant-loop-i : goal.invariant-loop-i
invariant-loop-i l = Going l.source.text.now l.source.tokens.now l.source.actions.now l.source.operands.now l.source.labels.now l.style l.initial.aims l.initial.index l.aims l.index l.t l.i

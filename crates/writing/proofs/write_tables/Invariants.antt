-- What is written so far leads to where all leads.
use Rattle.writing.proofs.Turns.{Done}
use Rattle.writing.proofs.write_tables.Given as goal

abbrev pub invariant-loop-i : goal.invariant-loop-i
invariant-loop-i l = Done l.text l.s l.log l.initial.actions l.initial.operands l.initial.levels l.initial.w l.actions l.operands l.levels l.w l.i

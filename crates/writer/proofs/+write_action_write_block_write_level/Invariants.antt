-- `writer::write_level`, `write_block` and `write_action` meet their contracts. The measure: levels that are left. Assumes nothing.
use Prim.Native.Nat.{◌+◌, ◌*◌, ◌-◌}
use Rattle.filling.specs.Pieces.{Tree}
use Rattle.writer.specs.Writing.{tables_of, AskedLevel}
use Rattle.writer.proofs.Turns.{Progress}
use Rattle.writer.proofs.Actions.{Going}
use Rattle.writer.proofs.+write_action_write_block_write_level.Given as goal

abbrev pub decreases-write_action : goal.decreases-write_action
decreases-write_action l = 3 * (1048576 - l.m) + 1

abbrev pub decreases-write_block : goal.decreases-write_block
decreases-write_block l = 3 * (1048576 - l.at.level)

abbrev pub decreases-write_level : goal.decreases-write_level
decreases-write_level l = 3 * (1048576 - l.m) + 2

-- ---- write_action
abbrev pub invariant-write_action-loop-p : goal.invariant-write_action-loop-p
invariant-write_action-loop-p l =
    Going (tables_of l.p) l.p.style l.a l.m l.initial.place l.initial.out l.r l.at l.place l.out

abbrev pub decreases-write_action-loop-p : goal.decreases-write_action-loop-p
decreases-write_action-loop-p l =
    1048576 - l.at.level

-- ---- write_level
abbrev pub invariant-write_level-loop-k : goal.invariant-write_level-loop-k
invariant-write_level-loop-k l =
    (x : Tree) → AskedLevel (tables_of l.p) l.p.style x l.n l.a l.m l.initial.place
    → Progress x l.n l.a l.m l.initial.place l.initial.out l.at.action l.at.level l.at.byte l.at.late l.k l.place l.out

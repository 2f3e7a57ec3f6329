-- `writing::write_tables` meets its contract. Assumes nothing.
use borrow.Author.Rules.{rules}
use mathlib.Core.Path.{refl, ap, ◌∙◌}
use native.Mathlib.Omega.{arith}
use lib.ListN.{length, length-set}
use Rattle.writing.specs.Writing.{steps, written}
use Rattle.writing.proofs.Turns.{again, ended}
use Rattle.writing.proofs.write_tables.Goals as goal

pub loop-i-init : goal.loop-i-init
loop-i-init c =
    record {
      inside = omega arith;
      small = record { actions = omega arith; operands = omega arith; levels = omega arith; level = omega arith; action = omega arith };
      told = refl;
      actions-long = refl;
      operands-long = refl;
      levels-long = refl;
    }

pub write_event-w-requires : goal.write_event-w-requires
write_event-w-requires c = (c.requires, (c.loop-i-test.true, c.loop-i.invariant.small))

pub loop-i-preserved : goal.loop-i-preserved
loop-i-preserved c =
    let e = c.write_event-w.ensures in
    again _ _ _ _ _ _ _ _ _ _ _ _ c.loop-i.invariant c.loop-i-test.true _ _ _ _ e.result_after e.behind (search rules) (search rules) (search rules)

pub shape_of-actions : goal.shape_of-actions
shape_of-actions c =
    c.loop-i.invariant.actions-long

pub shape_of-operands : goal.shape_of-operands
shape_of-operands c =
    c.loop-i.invariant.operands-long

pub shape_of-levels : goal.shape_of-levels
shape_of-levels c =
    c.loop-i.invariant.levels-long ∙ ap length c.open_level.ensures ∙ simp length-set

pub returns : goal.returns
returns c =
    let a = c.args in
    record {
      at = _;
      all =
          ended _ _ _ _ _ _ _ _ _ _ _ _ c.loop-i.invariant c.loop-i-test.false
          ∙ ap (λ l. steps a.text.now a.s.now a.log.now (written a.actions.now a.operands.now l (record { level = 0; action = 0; actions = 0; operands = 0; levels = 1 }))) c.open_level.ensures;
    }

-- `writing::act` meets its contract. Assumes nothing.
use mathlib.Core.Path.{refl}
use native.Mathlib.Omega.{arith}
use lib.ListN.{drop}
use Rattle.writing.proofs.Turns.{acted-is}
use Rattle.writing.proofs.act.Goals as goal

pub overflow_add-result : goal.overflow_add-result
overflow_add-result c =
    omega (arith, c.requires.1.1.actions)

pub returns : goal.returns
returns c =
    let a = c.args in
    let g = c.give_operands-given.ensures in record {
      result_after = acted-is a.text.now a.s.now a.name (drop a.from a.log.now) a.actions.now a.operands.now a.levels.now _ _ _ a.w c.give_operands-given.result
          g.operands_after g.end_value g.unclosed_value c.put_action.ensures c.move_level.ensures;
      actions_value = (refl, (omega (arith, g.unclosed_bound.1, c.requires.0), (refl, (refl, refl))));
    }

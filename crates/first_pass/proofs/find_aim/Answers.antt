-- `first_pass::find_aim` meets its contract. Assumes nothing.
use mathlib.Core.Path.{◌∙◌}
use Rattle.first_pass.proofs.Turns.{aim-found, aim-none}
use Rattle.first_pass.proofs.find_aim.Goals as goal

pub returns-then-is_jump : goal.returns-then-is_jump
returns-then-is_jump c =
    let p = c in
    let a = p.args in
    let q = c.aim_at in record {
      aimed = aim-found a.source.text.now a.source.tokens.now a.source.actions.now a.source.operands.now a.source.labels.now a.i
          c.action_in-name.result c.action_in-name.ensures c.is_jump.result c.is_jump.ensures c.if-is_jump.true
          a.t.labels q.result.aim p.requires.1 q.ensures.aimed;
      indexed = (q.ensures.indexed, q.ensures.kept ∙ p.requires.1);
    }

pub returns : goal.returns
returns c =
    let p = c in
    let a = p.args in record {
      aimed = aim-none a.source.text.now a.source.tokens.now a.source.actions.now a.source.operands.now a.source.labels.now a.i
          c.action_in-name.result c.action_in-name.ensures c.is_jump.result c.is_jump.ensures c.if-is_jump.false;
      indexed = p.requires;
    }

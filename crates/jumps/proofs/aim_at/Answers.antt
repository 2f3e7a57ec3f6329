-- `jumps::aim_at` meets its contract. Assumes nothing.
use mathlib.Core.Path.{ap}
use native.Mathlib.Omega.{arith}
use lib.ListN.{take}
use Rattle.entries.specs.declared.Action.{Action}
use Rattle.entries.specs.declared.Operand.{Operand}
use Rattle.jumps.proofs.Found.{told_at}
use Rattle.jumps.proofs.aim_at.Goals as goal

pub aim_of-requires : goal.aim_of-requires
aim_of-requires c = record {
  indexed_2 = c.requires;
  level_bound = (
    omega (arith, ap (λ (q : Action). q.level) c.action_in-a.ensures),
    omega (arith, ap (λ (q : Operand). q.token) c.operand_in-token.ensures),
  );
}

pub returns : goal.returns
returns c =
    let a = c.args in
    let q = c.aim_of in
    record {
      aimed =
          told_at a.source.text.now a.source.tokens.now a.source.actions.now a.source.operands.now a.i (take a.t.labels a.source.labels.now)
          c.action_in-a.ensures c.operand_in-token.ensures q.ensures.aimed;
      kept = q.ensures.kept;
      indexed = q.ensures.indexed;
    }

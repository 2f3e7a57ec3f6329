-- `lookups::delta_at` meets its contract: what an action's word holds is small. Assumes nothing.
use native.Mathlib.Omega.{arith}
use mathlib.Core.Path.{ap, ◌∙◌}
use Rattle.entries.specs.declared.Action.{Action}
use Rattle.pcode.specs.Deltas.{delta_answer}
use Rattle.lookups.specs.Deltas.{delta_in}
use Rattle.lookups.proofs.Bounds.{small}
use Rattle.lookups.proofs.delta_at.Goals as goal

pub overflow_add-a : goal.overflow_add-a
overflow_add-a c =
    omega (arith, small _ _ c.action_in-a.ensures)

pub returns : goal.returns
returns c =
    let a = c.args in
    c.delta.ensures ∙ ap (delta_answer _ _) c.first_is_empty-empty.ensures
    ∙ ap (λ (q : Action). delta_in a.text.now a.tokens.now a.operands.now q) c.action_in-a.ensures

-- `writing::close` meets its contract. Assumes nothing.
use mathlib.Core.Path.{sym, ap, subst}
use native.Mathlib.Omega.{arith}
use Rattle.entries.specs.declared.Action.{Action}
use Rattle.entries.specs.Levels.{Small}
use Rattle.writing.proofs.Turns.{closing-is}
use Rattle.writing.proofs.close.Goals as goal

pub returns : goal.returns
returns c =
    let a = c.args in record { value = closing-is a.actions.now a.levels.now a.w _ _ _ c.level_at-held.ensures.value c.owner_of-owner.ensures c.action_in-action.ensures; small = (omega (arith, ap (λ (x : Action). x.level) c.action_in-action.ensures), subst Small (sym c.owner_of-owner.ensures) c.level_at-held.ensures.small_level.owner) }

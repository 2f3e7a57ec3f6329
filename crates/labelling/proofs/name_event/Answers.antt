-- `labelling::name_event` meets its contract. Assumes nothing.
use mathlib.Core.Logic.{inl, inr}
use mathlib.Core.Path.{ap, subst, ◌∙◌}
use native.Mathlib.Omega.{arith}
use Rattle.events.specs.Log.{Holds}
use Rattle.labelling.specs.Naming.{acts}
use Rattle.labelling.proofs.Turns.{acted-is, passed_is, name-is, opened-is, closed_is, arm}
use Rattle.labelling.proofs.name_event.Goals as goal

pub put_here-requires : goal.put_here-requires
put_here-requires c =
    let p = c.requires in
    (omega (arith, p.0.level, p.0.levels), (omega (arith, p.0.actions), subst Holds c.in-Label.is p.1))

pub returns-in-Action : goal.returns-in-Action
returns-in-Action c =
    let a = c.args in
    elim c.in-Action.is [
      | inl e ↦ arm _ _ _ _ e.1 (acted-is a.own.now a.named.now a.n _ (c.acts.ensures.0 ∙ ap acts e.1))
      | inr e ↦ arm _ _ _ _ e.1 (passed_is a.own.now a.named.now a.n _ (c.acts.ensures.0 ∙ ap acts e.1))
    ]

pub returns-in-Label : goal.returns-in-Label
returns-in-Label c =
    let a = c.args in
    arm _ _ _ _ c.in-Label.is (name-is a.own.now a.named.now a.n _ _ c.put_here.ensures)

pub returns-in-Opened : goal.returns-in-Opened
returns-in-Opened c =
    let a = c.args in
    arm _ _ _ _ c.in-Opened.is (opened-is a.own.now a.named.now a.n _ c.put_here-in-Opened.ensures)

pub returns-in-Closed : goal.returns-in-Closed
returns-in-Closed c =
    let a = c.args in
    arm _ _ _ _ c.in-Closed.is (closed_is a.own.now a.named.now a.n _ c.label_in-place.ensures)

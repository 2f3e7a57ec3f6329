-- `entries::net_number` meets its contract. Assumes nothing.
use borrow.Author.Rules.{rules}
use mir.Syntax.{w64}
use mir.Val.{SFits}
use Rattle.entries.proofs.Levels.{sum_fits, sum_back, height-number, few-actions, undetermined-number}
use native.Mathlib.Omega.{arith}
use Rattle.entries.proofs.net_number.Goals as goal

pub overflow_add-h : goal.overflow_add-h
overflow_add-h c =
    let fits : SFits w64 c.in-Height.h = search rules in
    sum_fits _ (fits) _ c.in-Height.is c.requires

pub overflow_cast-h : goal.overflow_cast-h
overflow_cast-h c =
    let fits : SFits w64 c.in-Height.h = search rules in
    sum_back _ (fits) _ c.in-Height.is c.requires

pub overflow_add-result : goal.overflow_add-result
overflow_add-result c =
    omega (arith, few-actions _ _ c.in-Undetermined.is c.requires)

pub returns-in-Height : goal.returns-in-Height
returns-in-Height c =
    let fits : SFits w64 c.in-Height.h = search rules in
    height-number _ (fits) _ c.in-Height.is c.requires c.saturating_sub.ensures

pub returns-in-Undetermined : goal.returns-in-Undetermined
returns-in-Undetermined c =
    undetermined-number _ _ c.in-Undetermined.is c.requires

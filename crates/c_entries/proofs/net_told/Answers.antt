-- `c_entries::net_told` meets its contract, case by case. Assumes nothing.
use borrow.Author.Rules.{rules}
use mathlib.Core.Path.{sym, ap, ◌∙◌}
use mir.Syntax.{w64}
use mir.Val.{SFits}
use mir.ValLaws.{to_z-of_z}
use Rattle.c_entries.specs.Entries.{net_kind, net_action, net_height}
use Rattle.c_entries.proofs.net_told.Goals as goal

pub returns-in-Height : goal.returns-in-Height
returns-in-Height c =
    let fits : SFits w64 c.in-Height.height = search rules in
    let e = sym c.in-Height.is in
    (ap net_kind e, (ap net_action e, to_z-of_z w64 c.in-Height.height (fits) ∙ ap net_height e))

pub returns-in-Undetermined : goal.returns-in-Undetermined
returns-in-Undetermined c = let e = sym c.in-Undetermined.is in (ap net_kind e, (ap net_action e, ap net_height e))

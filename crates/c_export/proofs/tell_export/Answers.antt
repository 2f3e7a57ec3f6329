-- `c_export::tell_export` meets its contract. Assumes nothing.
use mathlib.Core.Path.{sym, ap, ◌∙◌}
use lib.ListN.{set}
use Rattle.c_export.specs.Telling.{export_number, export_after}
use Rattle.c_export.proofs.tell_export.Goals as goal

pub returns-in-Ok : goal.returns-in-Ok
returns-in-Ok c =
    let old = c.args.told.now in
    let e = sym c.in-Ok.is in
    record { value = ap export_number e; told_after = ap (λ a. export_after a old) e }

pub returns-in-Err : goal.returns-in-Err
returns-in-Err c =
    let old = c.args.told.now in
    let e = sym c.in-Err.is in
    record { value = c.refusal_number.ensures ∙ ap export_number e; told_after = ap (set old 0) c.refusal_place.ensures ∙ ap (λ a. export_after a old) e }

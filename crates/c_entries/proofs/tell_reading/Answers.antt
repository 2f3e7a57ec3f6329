-- `c_entries::tell_reading` meets its contract. Assumes nothing.
use mathlib.Core.Path.{sym, ap, ◌∙◌}
use lib.ListN.{set}
use Rattle.c_entries.specs.Entries.{read_number, read_after}
use Rattle.c_entries.proofs.tell_reading.Goals as goal

pub returns-in-Ok : goal.returns-in-Ok
returns-in-Ok c =
    let old = c.args.out.now in
    let e = sym c.in-Ok.is in
    record { value = ap read_number e; out_after = ap (λ a. read_after a old) e }

pub returns-in-Err : goal.returns-in-Err
returns-in-Err c =
    let old = c.args.out.now in
    let e = sym c.in-Err.is in
    record { value = c.refusal_number.ensures ∙ ap read_number e; out_after = ap (set old 0) c.refusal_place.ensures ∙ ap (λ a. read_after a old) e }

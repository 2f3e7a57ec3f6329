-- `exporting::export_tables` meets its contract. Assumes nothing.
use mathlib.Core.Path.{sym, ◌∙◌}
use Rattle.std.proofs.lemmas.Result.{err_from_is_err_and}
use Rattle.exporting.proofs.Both.{whole, distinct, refused-by, given, passes}
use Rattle.exporting.proofs.export_tables.Goals as goal

pub first_pass-requires : goal.first_pass-requires
first_pass-requires c =
    let p = c in
    let r = p.requires.roomy in
    record { sound = (whole p.requires.held p.args.style, distinct p.requires.held p.args.style); actions_in_bounds = (r.for_aims, (r.for_index, r.few)) }

pub returns-in_err-first_pass : goal.returns-in_err-first_pass
returns-in_err-first_pass c =
    let p = err_from_is_err_and c.from_residual.result c.from_residual.ensures.1 in
    let a = c.args in
    let q = c.first_pass in
    rw (p.1, p.2) (λ h. refused-by h a.style a.out.now c.in_err-first_pass.field-0.0 (sym q.ensures.first ∙ c.in_err-first_pass.was))

pub second_pass-requires : goal.second_pass-requires
second_pass-requires c =
    let p = c in
    let a = p.args in
    let q = c.first_pass in
    given p.requires.held a.style a.out.now (sym q.ensures.first ∙ c.in_ok-first_pass.was) a.aims.now a.index.now a.place.now p.requires.roomy q.new.aims c.in_ok-first_pass.ensures.aimed

pub returns : goal.returns
returns c h =
    let p = c in
    let a = p.args in
    let q = c.first_pass in
    let w = c.second_pass in
    passes h a.style a.out.now (sym q.ensures.first ∙ c.in_ok-first_pass.was) a.aims.now a.index.now a.place.now p.requires.roomy q.new.aims c.in_ok-first_pass.ensures.aimed
    w.new.out w.result w.ensures

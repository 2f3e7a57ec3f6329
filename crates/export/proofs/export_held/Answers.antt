-- `export::export_held` meets its contract. Assumes nothing.
use Rattle.std.proofs.lemmas.Result.{err_from_is_err_and}
use Rattle.handover.specs.Reading.{held_in}
use Rattle.held.proofs.Hand.{held-read, handable}
use Rattle.export.proofs.Answers.{held_by_lem, not_read, not_exported, exported-all}
use Rattle.export.proofs.export_held.Goals as goal

pub pass_held-requires : goal.pass_held-requires
pass_held-requires c = held_by_lem (held-read c.read_held.ensures.holds c.in_ok-counts.was)

pub hand_tables-requires : goal.hand_tables-requires
hand_tables-requires c =
    let w = c.read_held.ensures.holds in
    handable _ w.before _ _ _ (held-read w c.in_ok-counts.was)

pub returns-in_err-counts-clause-exports : goal.returns-in_err-counts-clause-exports
returns-in_err-counts-clause-exports c =
    let p = err_from_is_err_and c.from_residual.result c.from_residual.ensures.1 in
    let a = c.args in
    let q = c.read_held in
    rw (p.1, p.2) (not_read a.style a.text.now (held_in q.new.held) (held_in a.tables.now) q.result q.ensures.holds a.out.now _ c.in_err-counts.was)

pub returns-in_err-bytes-clause-exports : goal.returns-in_err-bytes-clause-exports
returns-in_err-bytes-clause-exports c =
    let p = err_from_is_err_and c.from_residual-in_err-bytes.result c.from_residual-in_err-bytes.ensures.1 in
    let a = c.args in
    let q = c.read_held in
    let w = c.pass_held in
    rw (p.1, p.2)
    (not_exported a.style a.text.now (held_in q.new.held) (held_in a.tables.now) q.result q.ensures.holds a.out.now _ c.in_ok-counts.was w.new.out w.result w.ensures _ c.in_err-bytes.was)

pub returns-clause-exports : goal.returns-clause-exports
returns-clause-exports c =
    let a = c.args in
    let q = c.read_held in
    let w = c.pass_held in
    exported-all a.style a.text.now (held_in q.new.held) (held_in a.tables.now) q.result q.ensures.holds a.out.now _ c.in_ok-counts.was w.new.out w.result w.ensures _ c.in_ok-bytes.was
    _ c.hand_tables.ensures.hands_over

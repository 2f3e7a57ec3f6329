-- `entry_reading::read_over` meets its contract: the labels that were read have places in the scratch and in the slice, and come back
-- from the scratch. Assumes nothing.
use Rattle.std.proofs.lemmas.Result.{err_from_is_err_and}
use Rattle.entry_reading.proofs.Labels.{enough, handed, refused}
use Rattle.entry_reading.proofs.read_over.Goals as goal

pub returns-in_err-counts-clause-reads : goal.returns-in_err-counts-clause-reads
returns-in_err-counts-clause-reads g c =
    let p = err_from_is_err_and c.from_residual.result c.from_residual.ensures.1 in
    rw (p.1, p.2) (refused _ _ _ _ _ _ _ _ _ _ _ _ _ c.in_err-counts.ensures)

pub put_labels-requires : goal.put_labels-requires
put_labels-requires g c = enough _ _ _ _ _ _ _ _ _ _ _ _ _ c.in_ok-counts.ensures

pub returns-clause-reads : goal.returns-clause-reads
returns-clause-reads g c = handed _ _ _ _ _ _ _ _ _ _ _ _ _ c.in_ok-counts.ensures _ c.put_labels.ensures

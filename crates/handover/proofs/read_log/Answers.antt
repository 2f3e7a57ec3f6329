-- `handover::read_log` meets its contract. Assumes nothing.
use Rattle.handover.proofs.Handing as laws
use Rattle.handover.proofs.read_log.Goals as goal

pub returns-in-Some-clause-reads : goal.returns-in-Some-clause-reads
returns-in-Some-clause-reads c = laws.row8 _ _ _ _ _ _ _ _ c.requires _ c.count_log-c.ensures _ c.in-Some.ensures

pub returns-in_default-put_labels-clause-reads : goal.returns-in_default-put_labels-clause-reads
returns-in_default-put_labels-clause-reads c =
    let p = c.requires in
    laws.row8_labels _ _ _ _ _ _ _ _ p _ c.count_log-c.ensures c.in_default.ensures _ (c.in_default-put_labels.ensures p.tree p.of p.log-of)

pub returns-clause-reads : goal.returns-clause-reads
returns-clause-reads c =
    let p = c.requires in
    laws.accepted-all _ _ _ _ _ _ _ _ p _ c.count_log-c.ensures c.in_default.ensures _ _ _ _ _ _
    (c.in-Some-put_labels.ensures p.tree p.of p.log-of) c.write_tables.ensures c.copy_front.ensures

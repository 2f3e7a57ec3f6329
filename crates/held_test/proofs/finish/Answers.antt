-- `held_test::finish` meets its contract. Assumes nothing.
use Rattle.std.proofs.lemmas.Result.{err_from_is_err_and}
use Rattle.handover.specs.Reading.{held_in}
use Rattle.held.proofs.Hand.{held-read, handable}
use Rattle.held_test.proofs.Determined as laws
use Rattle.held_test.proofs.finish.Goals as goal

pub returns-in_err-counts-clause-reads : goal.returns-in_err-counts-clause-reads
returns-in_err-counts-clause-reads c =
    let p = err_from_is_err_and c.from_residual.result c.from_residual.ensures.1 in
    rw (p.1, p.2) (laws.refused _ (held_in c.args.held.now) _ _ c.requires _ c.in_err-counts.was)

pub returns-then-is_undetermined-clause-reads : goal.returns-then-is_undetermined-clause-reads
returns-then-is_undetermined-clause-reads c =
    laws.undetermined _ _ _ _ c.requires _ c.in_ok-counts.was _ c.is_undetermined.ensures c.if-is_undetermined.true

pub hand_tables-requires : goal.hand_tables-requires
hand_tables-requires c = handable _ c.requires.before _ _ _ (held-read c.requires c.in_ok-counts.was)

pub returns-clause-reads : goal.returns-clause-reads
returns-clause-reads c =
    laws.determined _ _ _ _ c.requires _ c.in_ok-counts.was _ c.is_undetermined.ensures c.if-is_undetermined.false _ c.hand_tables.ensures.hands_over

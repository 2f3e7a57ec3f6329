-- `as2_pcode::read` meets its contract: rows 1 and 2, then the others. Assumes nothing.
use mathlib.Core.Path.{refl}
use Rattle.handover.specs.Reading.{Reads}
use Rattle.as2_pcode.proofs.Rows as laws
use Rattle.as2_pcode.proofs.read.Goals as goal

pub returns-then-text-gt65536-clause-reads : goal.returns-then-text-gt65536-clause-reads
unfolding Reads
returns-then-text-gt65536-clause-reads c = (laws.row1 c.args.text.now _ _ c.if-text-gt65536.true, refl)

pub returns-then-valid-text-clause-reads : goal.returns-then-valid-text-clause-reads
unfolding Reads
returns-then-valid-text-clause-reads c = (laws.row2 c.args.text.now _ _ c.if-text-gt65536.false _ c.valid_up_to-valid.ensures c.if-valid-text.true, refl)

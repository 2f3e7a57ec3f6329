-- `export_scratch::export_reading` meets its contract: the largest scratch is enough for each reading. Assumes nothing.
use native.Mathlib.Omega.{arith}
use Rattle.export_scratch.proofs.Sizes.{few-actions, few-labels, few-levels}
use Rattle.export_scratch.proofs.export_reading.Goals as goal

pub export_over-requires-2 : goal.export_over-requires-2
export_over-requires-2 c =
    let h = c.requires in
    record {
      held = h;
      for_aims = (few-actions h, omega arith);
      for_index = (omega (arith, few-labels h), omega arith);
      for_place = (omega (arith, few-actions h, few-levels h), omega arith);
    }

-- `export_scratch::export_over` meets its contract. Assumes nothing.
use native.Mathlib.Omega.{arith}
use Rattle.export_scratch.proofs.Sizes.{roomy}
use Rattle.export_scratch.proofs.export_over.Goals as goal

pub export_tables-requires : goal.export_tables-requires
export_tables-requires g c =
    let p = c.requires in
    record { held = p.held; roomy = roomy g.row.A g.row.I g.row.P p.for_aims.0 p.for_index.0 (omega (arith, p.for_index.1)) p.for_place.0 }

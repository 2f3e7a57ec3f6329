-- `labels::index_labels` meets its contract. Assumes nothing.
use mathlib.Core.Path.{refl}
use native.Mathlib.Omega.{arith}
use Rattle.labels.proofs.index_labels.Goals as goal

pub returns : goal.returns
returns c =
    let p = c.requires in
    let q = c.rebuild in
    let long = q.auto.index in record {
      all = refl;
      indexed = record {
        inside = p.m_in_bounds.0;
        room = omega (arith, p.m_in_bounds.1.0, long);
        few = omega (arith, p.m_in_bounds.1.1, long);
        distinct = p.distinct;
        chains = q.ensures;
      };
    }

-- `labelling::put_over` meets its contract. Assumes nothing.
use borrow.Author.Rules.{rules}
use Rattle.labelling.proofs.Over.{merged-fits, labels_asked, short, put, roomy}
use Rattle.labelling.proofs.put_over.Goals as goal

pub collect-requires : goal.collect-requires
collect-requires g c =
    c.requires.asked.few

pub arrange_labels-m-requires : goal.arrange_labels-m-requires
arrange_labels-m-requires g c =
    let p = c.requires in
    labels_asked _ _ _ _ _ p.asked _ _ _ _ _ c.collect.ensures (roomy _ _ g.row.N p.roomy.0 p.roomy.1.0) (search rules) (search rules)

pub returns-then-labels-m : goal.returns-then-labels-m
returns-then-labels-m g c =
    let p = c.requires in
    let r = roomy _ _ g.row.N p.roomy.0 p.roomy.1.0 in
    λ x known e.
    short _ _ _ _ _ p.asked x known e _ _ _ _ _ _ r.for_levels r.for_named c.collect.ensures c.arrange_labels-m.ensures _ c.if-labels-m.true

pub copy_front-requires : goal.copy_front-requires
copy_front-requires g c = (merged-fits _ _ _ _ _ _ c.arrange_labels-m.ensures, c.if-labels-m.false)

pub returns : goal.returns
returns g c =
    let p = c.requires in
    let r = roomy _ _ g.row.N p.roomy.0 p.roomy.1.0 in
    λ x known e.
    put _ _ _ _ _ p.asked x known e _ _ _ _ _ _ r.for_levels r.for_named c.collect.ensures c.arrange_labels-m.ensures _ _ c.if-labels-m.false c.copy_front.ensures

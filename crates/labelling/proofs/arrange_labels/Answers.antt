-- `labelling::arrange_labels` meets its contract. Assumes nothing.
use mathlib.Core.Path.{sym}
use native.Mathlib.Omega.{arith}
use lib.Seq.{length-take-le}
use Rattle.labelling.proofs.Arranging.{labels_arranged}
use Rattle.labelling.proofs.arrange_labels.Goals as goal

pub slice_bounds-named-end-2 : goal.slice_bounds-named-end-2
slice_bounds-named-end-2 c =
    let s = c in
    sym (length-take-le s.args.n s.args.labels.now s.requires.inside)

pub group-requires : goal.group-requires
group-requires c =
    let s = c in
    let n = length-take-le s.args.n s.args.labels.now s.requires.inside in
    (s.requires.keys, (omega (arith, n, s.requires.sorted_room), s.requires.starts-room))

pub returns : goal.returns
returns c =
    let s = c in
    let a = s.args in
    let g = c.group in
    let m = c.merge_labels in
    labels_arranged a.text.now a.s.now a.n a.levels a.labels.now a.sorted.now s.requires.inside s.requires.keys g.ensures m.ensures

-- One more label of the first i words is put. Assumes nothing.
use mathlib.Core.Path.{ap, sym, ◌∙◌}
use native.Mathlib.Numerals.{add-one}
use native.Mathlib.Omega.{arith}
use lib.ListN.{set}
use Rattle.label_entries.proofs.Made.{made, made_more}
use Rattle.label_entries.proofs.put_labels.Goals as goal

pub loop-i-preserved : goal.loop-i-preserved
loop-i-preserved c =
    let a = c.args in
    let l = c.loop-i in
    (λ j. set (l.invariant j) l.i (c.label_in.ensures j))
    ∙ made_more a.words.now a.labels.now l.i (omega arith) (omega arith)
    ∙ ap (made a.words.now a.labels.now) (sym (add-one l.i))

-- `labels::move_label` meets its contract. Assumes nothing.
use mathlib.Core.Path.{sym, subst, ◌∙◌}
use native.Mathlib.Omega.{arith}
use Rattle.entries.specs.declared.Label.{Label}
use Rattle.entries.specs.Entries.{label_word, label_of}
use Rattle.entries.specs.Levels.{LabelFits}
use Rattle.labels.proofs.move_label.Goals as goal

abbrev placed : Label → Label → Label
placed l m = record { level = l.level; token = l.token; position = m.position }

pub label_word-requires : goal.label_word-requires
label_word-requires c =
    let a = c.args in
    subst (λ (l : Label). LabelFits (placed l c.label_of.result)) (sym c.label_of-kept.ensures)
    (subst (λ (m : Label). LabelFits (placed (label_of a.v) m)) (sym c.label_of.ensures) (omega arith, (omega arith, omega arith)))

pub returns : goal.returns
returns c =
    c.label_word.ensures ∙ (λ i. label_word (placed (c.label_of-kept.ensures i) (c.label_of.ensures i)))

-- `pcode_c::pcode_label` meets its contract. Assumes nothing.
use borrow.Author.Rules.{rules}
use mathlib.Core.Path.{ap, ◌∙◌}
use Rattle.entries.specs.declared.Label.{Label}
use Rattle.c_entries.specs.Entries.{label_after}
use Rattle.pcode_c.proofs.pcode_label.Goals as goal

pub returns : goal.returns
returns c =
    let w = c in
    c.tell_label.ensures ∙ ap (λ (x : Label). label_after x w.args.out.now) w.label_of.ensures

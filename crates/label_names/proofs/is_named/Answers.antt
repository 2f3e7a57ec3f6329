-- `label_names::is_named` meets its contract. Assumes nothing.
use mathlib.Core.Path.{◌∙◌}
use borrow.Author.Tests.{ne_eqb}
use Rattle.label_names.proofs.Named as laws
use Rattle.label_names.proofs.is_named.Goals as goal

pub returns-then-level-label_of : goal.returns-then-level-label_of
returns-then-level-label_of c =
    let a = c.args in
    laws.compared a.text.now a.s.now a.level a.name.now a.v c.label_of.ensures c.if-level-label_of.true c.name_of.ensures c.same_bytes.ensures

pub returns-else-level-label_of : goal.returns-else-level-label_of
returns-else-level-label_of c =
    let a = c.args in
    ne_eqb a.level c.label_of.result.level c.if-level-label_of.false ∙ laws.not_named a.text.now a.s.now a.level a.name.now a.v c.label_of.ensures c.if-level-label_of.false

-- `label_entries::is_named` meets its contract. Assumes nothing.
use borrow.Author.Tests.{ne_eqb}
use Rattle.label_entries.specs.Labels.{is_named}
use Rattle.label_entries.proofs.Named.{compared}
use Rattle.label_entries.proofs.is_named.Goals as goal

pub returns-then-label-level : goal.returns-then-label-level
unfolding is_named
returns-then-label-level c = simp (ne_eqb _ _ c.if-label-level.true)

pub returns : goal.returns
returns c =
    let a = c.args in
    compared a.text.now a.tokens.now a.level a.name.now a.label c.if-label-level.false
    c.token_in-token.ensures c.raw_text.ensures.result_value c.same_bytes.ensures

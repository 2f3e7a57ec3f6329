-- `wanted::wanted_of_pair` meets its contract. Assumes nothing.
use borrow.Author.Rules.{rules}
use mathlib.Core.Path.{sym, ◌∙◌}
use Rattle.wanted.proofs.Numbered.{register, parameter}
use Rattle.wanted.proofs.wanted_of_pair.Goals as goal

pub returns-then-index-eq0 : goal.returns-then-index-eq0
returns-then-index-eq0 c =
    let a = c.args in c.wanted_of_parameter.ensures ∙ sym (register a.count a.index c.if-index-eq0.true)

pub returns : goal.returns
returns c =
    let a = c.args in c.wanted_of_parameter-2.ensures ∙ sym (parameter a.count a.index c.if-index-eq0.false)

-- `wanted::wanted_of_frame` meets its contract. Assumes nothing.
use borrow.Author.Rules.{rules}
use mathlib.Core.Path.{◌∙◌}
use Rattle.wanted.proofs.Numbered.{no_bias, some-bias}
use Rattle.wanted.proofs.wanted_of_frame.Goals as goal

pub returns-then-given-eq0 : goal.returns-then-given-eq0
returns-then-given-eq0 c =
    let a = c.args in c.of_three.ensures ∙ no_bias a.number a.given c.if-given-eq0.true

pub returns : goal.returns
returns c =
    let a = c.args in c.of_three-2.ensures ∙ some-bias a.number a.given c.if-given-eq0.false

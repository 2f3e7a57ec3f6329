-- `classes::acts_as` meets its contract. Assumes nothing.
use borrow.Author.Rules.{rules}
use mir.Syntax.{w32}
use mir.Val.{SFits}
use Rattle.classes.proofs.OneToken.{acts_below, acts_above, acts-fits}
use Rattle.classes.proofs.acts_as.Goals as goal

pub overflow_cast-result : goal.overflow_cast-result
overflow_cast-result c =
    let fits : SFits w32 c.args.n = search rules in
    acts-fits _ fits c.if-n-lt0.false

pub returns-then-n-lt0 : goal.returns-then-n-lt0
returns-then-n-lt0 c =
    let fits : SFits w32 c.args.n = search rules in
    acts_below _ fits c.if-n-lt0.true

pub returns-else-n-lt0 : goal.returns-else-n-lt0
returns-else-n-lt0 c =
    let fits : SFits w32 c.args.n = search rules in
    acts_above _ fits c.if-n-lt0.false

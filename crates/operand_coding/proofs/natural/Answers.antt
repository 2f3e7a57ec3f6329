-- `operand_coding::natural` meets its contract. Assumes nothing.
use borrow.Author.Rules.{rules}
use mir.Syntax.{w32}
use mir.Val.{SFits}
use Rattle.classes.proofs.OneToken.{acts-fits}
use Rattle.operand_coding.proofs.Signed.{negative, natural}
use Rattle.operand_coding.proofs.natural.Goals as goal

pub overflow_cast-result : goal.overflow_cast-result
overflow_cast-result c =
    let fits_2 : SFits w32 c.args.n = search rules in
    acts-fits _ (fits_2) c.if-n-lt0.false

pub returns-then-n-lt0 : goal.returns-then-n-lt0
returns-then-n-lt0 c =
    let fits : SFits w32 c.args.n = search rules in
    let every = negative _ (fits) c.if-n-lt0.true in record { value = every.0; upper_bound = every.1 }

pub returns-else-n-lt0 : goal.returns-else-n-lt0
returns-else-n-lt0 c =
    let fits_2 : SFits w32 c.args.n = search rules in
    let every = natural _ (fits_2) c.if-n-lt0.false in record { value = every.0; upper_bound = every.1 }

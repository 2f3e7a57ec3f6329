-- `operand_coding::bits_32` meets its contract. Assumes nothing.
use borrow.Author.Rules.{rules}
use mir.Syntax.{w32}
use mir.Val.{SFits}
use Rattle.operand_coding.proofs.Signed.{wide, sum_fits, sum_back, low_bits}
use Rattle.operand_coding.proofs.bits_32.Goals as goal

pub overflow_cast-result : goal.overflow_cast-result
overflow_cast-result c =
    let fits : SFits w32 c.args.n = search rules in
    wide _ (fits)

pub overflow_add-result : goal.overflow_add-result
overflow_add-result c =
    let fits : SFits w32 c.args.n = search rules in
    sum_fits _ (fits)

pub overflow_cast-result-2 : goal.overflow_cast-result-2
overflow_cast-result-2 c =
    let fits : SFits w32 c.args.n = search rules in
    sum_back _ (fits)

pub returns : goal.returns
returns c =
    let fits : SFits w32 c.args.n = search rules in
    low_bits _ (fits)

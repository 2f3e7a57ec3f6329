-- `lexer::hand_over` meets its contract: rows 3 to 5, from what stands in the scratch table. Assumes nothing.
use borrow.Author.Rules.{rules}
use Rattle.lexer.proofs.Rows.{row34, row5, accept}
use Rattle.lexer.proofs.hand_over.Goals as goal

pub returns-in_err-n : goal.returns-in_err-n
returns-in_err-n c = search (rules, row34)

pub returns-then-table-n : goal.returns-then-table-n
returns-then-table-n c = row5 _ _ _ _ c.in_ok-n.ensures c.if-table-n.true

pub copy_front-requires : goal.copy_front-requires
copy_front-requires c = let h = c.in_ok-n.ensures.few in search rules

pub returns : goal.returns
returns c = accept _ _ _ _ c.in_ok-n.ensures c.if-table-n.false _ c.copy_front.ensures

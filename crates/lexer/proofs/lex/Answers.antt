-- `lexer::lex` meets its contract: rows 1 and 2, then the others. Assumes nothing.
use Rattle.lexer.proofs.Rows as laws
use Rattle.lexer.proofs.lex.Goals as goal

pub returns-then-text-gt65536 : goal.returns-then-text-gt65536
returns-then-text-gt65536 c = let a = c.args in laws.row1 a.text.now a.table.now c.if-text-gt65536.true

pub returns-then-valid-text : goal.returns-then-valid-text
returns-then-valid-text c =
    let a = c.args in
    laws.row2 a.text.now a.table.now c.if-text-gt65536.false _ c.valid_up_to-valid.ensures c.if-valid-text.true

pub returns-then-text-le1024 : goal.returns-then-text-le1024
returns-then-text-le1024 c =
    let v = c in
    let a = v.args in
    laws.rows345 a.text.now a.table.now v.if-text-gt65536.false _ v.valid_up_to-valid.ensures c.if-valid-text.false _ _
    c.lex_within.ensures

pub returns-then-text-le8192 : goal.returns-then-text-le8192
returns-then-text-le8192 c =
    let v = c in
    let a = v.args in
    laws.rows345 a.text.now a.table.now v.if-text-gt65536.false _ v.valid_up_to-valid.ensures c.if-valid-text.false _ _
    c.lex_within-then-text-le8192.ensures

pub returns : goal.returns
returns c =
    let v = c in
    let a = v.args in
    laws.rows345 a.text.now a.table.now v.if-text-gt65536.false _ v.valid_up_to-valid.ensures c.if-valid-text.false _ _
    c.lex_within-2.ensures

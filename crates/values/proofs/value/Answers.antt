-- `values::value` meets its contract. Assumes nothing.
use Rattle.values.proofs.Values as laws
use Rattle.values.proofs.value.Goals as goal

pub returns-then-text-gt65536 : goal.returns-then-text-gt65536
returns-then-text-gt65536 c = let a = c.args in laws.too_long a.text.now a.token c.if-text-gt65536.true

pub returns-then-end-start : goal.returns-then-end-start
returns-then-end-start c =
    let a = c.args in
    laws.out_of_order a.text.now a.token c.if-text-gt65536.false c.if-end-start.true

pub returns-then-text-end : goal.returns-then-text-end
returns-then-text-end c =
    let a = c.args in
    laws.past_the_text a.text.now a.token c.if-text-gt65536.false c.if-text-end.true

pub returns : goal.returns
returns c =
    let a = c.args in
    laws.inside a.text.now a.token c.if-text-gt65536.false c.if-end-start.false
    c.if-text-end.false _ c.kind_value.ensures

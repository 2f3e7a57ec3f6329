-- `handover::short_table` meets its contract. Assumes nothing.
use Rattle.handover.proofs.Rows.{short₀, short₁, short₂, none-short}
use Rattle.handover.proofs.short_table.Goals as goal

pub returns-then-actions-c : goal.returns-then-actions-c
returns-then-actions-c c =
    let a = c.args in let t = a.c in short₀ a.actions a.operands a.levels t.actions t.operands t.levels c.if-actions-c.true

pub returns-then-operands-c : goal.returns-then-operands-c
returns-then-operands-c c =
    let a = c.args in let t = a.c in short₁ a.actions a.operands a.levels t.actions t.operands t.levels c.if-actions-c.false c.if-operands-c.true

pub returns-then-levels-c : goal.returns-then-levels-c
returns-then-levels-c c =
    let a = c.args in let t = a.c in short₂ a.actions a.operands a.levels t.actions t.operands t.levels c.if-actions-c.false c.if-operands-c.false c.if-levels-c.true

pub returns : goal.returns
returns c =
    let a = c.args in let t = a.c in none-short a.actions a.operands a.levels t.actions t.operands t.levels c.if-actions-c.false c.if-operands-c.false c.if-levels-c.false

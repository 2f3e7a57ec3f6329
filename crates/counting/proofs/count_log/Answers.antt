-- `counting::count_log` meets its contract. Assumes nothing.
use borrow.Author.Rules.{rules}
use Rattle.counting.proofs.Counts.{begins, again, ended}
use Rattle.counting.proofs.count_log.Goals as goal

pub loop-word-init : goal.loop-word-init
loop-word-init c =
    begins _

pub overflow_add-actions : goal.overflow_add-actions
overflow_add-actions c =
    search (rules, c.loop-word.invariant.actions-few, c.one_if-actions.ensures.upper_bound)

pub overflow_add-labels : goal.overflow_add-labels
overflow_add-labels c =
    search (rules, c.loop-word.invariant.labels-few, c.one_if-labels.ensures.upper_bound)

pub overflow_add-operands : goal.overflow_add-operands
overflow_add-operands c =
    search (rules, c.loop-word.invariant.operands-few, c.one_if-operands.ensures.upper_bound)

pub overflow_add-levels : goal.overflow_add-levels
overflow_add-levels c =
    search (rules, c.loop-word.invariant.levels-few, c.one_if-levels.ensures.upper_bound)

pub loop-word-preserved : goal.loop-word-preserved
loop-word-preserved c =
    again _ _ _ _ _ _ c.loop-word.invariant c.loop-word-test.true _ _ _ _ (c.one_if-actions.ensures.value, c.one_if-actions.ensures.upper_bound) (c.one_if-labels.ensures.value, c.one_if-labels.ensures.upper_bound) (c.one_if-operands.ensures.value, c.one_if-operands.ensures.upper_bound) (c.one_if-levels.ensures.value, c.one_if-levels.ensures.upper_bound)

pub returns : goal.returns
returns c =
    ended _ _ _ _ _ _ c.loop-word.invariant c.loop-word-test.false

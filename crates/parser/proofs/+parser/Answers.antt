-- The readers of levels, actions and blocks meet their contracts, by one induction on the tokens that are left: each goal is a law
-- of BlockLaws, TryLaws or LevelLaws, with the facts listed where the search would not reach them. Assumes nothing.
use Rattle.std.proofs.Common.{rules}
use Rattle.operands.proofs.Runs.{fine-to, met}
use Rattle.parser.proofs.BlockLaws.{block-bad, block-deep, block_goes_by, blocks-none, in_fine, last-block-bad, last-block_ok, opened-fine, opened_less}
use Rattle.parser.proofs.TryLaws.{catch_asked, catch-bad, catch-fine, catch_less, catch-next, catch_ok, caught_less, finally-fine, finally_less, finally-next, last-catch, last_end, last-finally, last-item, tried_before, tried_less, try-bad, try-ends, try_ok}
use Rattle.parser.proofs.LevelLaws.{acted_less, action_not, action-whole, item-newline, level_close_bad, level_closes, level_fails, level-short, level-whole, number_fits, operands-bad, reach_less, reach_next}
use Rattle.parser.proofs.+parser.Goals as goal

-- ---- action

pub action-returns-in_default : goal.action-returns-in_default
action-returns-in_default t c = action_not _ _ _ _ _ _ c.requires.fine c.requires.at_in_bounds c.requires.plain c.token_of.ensures c.in_default.not-ActionName

pub action-log_event-requires : goal.action-log_event-requires
action-log_event-requires t c = search number_fits

pub action-returns-in_err-p : goal.action-returns-in_err-p
action-returns-in_err-p t c =
    rw (met c.from_residual.ensures.1)
    (search (operands-bad, c.in_err-p.ensures, c.shape_of-w.ensures, c.logged.ensures, c.log_event.ensures, c.action_number.ensures, c.in-ActionName.is, c.token_of.ensures, c.requires))

pub action-blocks-requires : goal.action-blocks-requires
action-blocks-requires t c =
    (acted_less _ _ _ _ _ _ _ _ c.requires.at_in_bounds c.logged.ensures c.in_ok-p.ensures c.decreases, search (fine-to, c.in_ok-p.ensures))

pub action-returns : goal.action-returns
action-returns t c =
    search (action-whole, c.blocks-2.ensures, c.in_ok-p.ensures, c.shape_of-w.ensures, c.logged.ensures, c.log_event.ensures, c.action_number.ensures, c.in-ActionName.is, c.token_of.ensures, c.requires)

-- ---- actions

pub actions-returns-then-inside : goal.actions-returns-then-inside
actions-returns-then-inside t c = search level_closes

pub actions-returns-then-is_kind_at : goal.actions-returns-then-is_kind_at
actions-returns-then-is_kind_at t c = search level_close_bad

pub actions-returns-in_err-p : goal.actions-returns-in_err-p
actions-returns-in_err-p t c = rw (met c.from_residual.ensures.1) (search (level_fails, c.in_err-p.ensures))

pub actions-loop-p-smaller : goal.actions-loop-p-smaller
actions-loop-p-smaller t c = search (reach_less, c.in_ok-p.ensures)

pub actions-loop-p-preserved : goal.actions-loop-p-preserved
actions-loop-p-preserved t c = (search (reach_next, c.in_ok-p.ensures), search rules)

pub actions-returns-then-inside-2 : goal.actions-returns-then-inside-2
actions-returns-then-inside-2 t c = search level-short

pub actions-returns-else-inside-2 : goal.actions-returns-else-inside-2
actions-returns-else-inside-2 t c = search level-whole

-- ---- block

pub block-returns-then-not-is_kind_at : goal.block-returns-then-not-is_kind_at
block-returns-then-not-is_kind_at t c = search block-bad

pub block-returns-then-room-eq0 : goal.block-returns-then-room-eq0
block-returns-then-room-eq0 t c = search block-deep

pub block-actions-requires : goal.block-actions-requires
block-actions-requires t c = (search opened_less, search opened-fine)

pub block-returns : goal.block-returns
block-returns t c = search block_goes_by

-- ---- blocks

pub blocks-returns-in_default : goal.blocks-returns-in_default
blocks-returns-in_default t c = search (blocks-none, c.in_default)

-- ---- handlers

pub handlers-returns-in_default : goal.handlers-returns-in_default
handlers-returns-in_default t c = search (try-ends, c.in_default.not-Catch)

pub handlers-overflow_add-q : goal.handlers-overflow_add-q
handlers-overflow_add-q t c = search catch-next

pub handlers-give_target-f-requires : goal.handlers-give_target-f-requires
handlers-give_target-f-requires t c = search catch_asked

pub handlers-block-requires : goal.handlers-block-requires
handlers-block-requires t c = (search catch_less, search catch-fine)

pub handlers-returns-in_err-p : goal.handlers-returns-in_err-p
handlers-returns-in_err-p t c =
    rw (met c.from_residual.ensures.1)
    (catch-bad _ _ _ _ _ _ _ _ _ _ c.requires.fine c.next_handler-x.ensures c.in-Catch.is c.move_to-e.ensures c.give_target-f.ensures _ _ _ c.in_err-p.ensures)

pub handlers-next_handler-z-requires : goal.handlers-next_handler-z-requires
handlers-next_handler-z-requires t c = search (in_fine, c.in_ok-p.ensures)

pub handlers-last_handler-requires-2 : goal.handlers-last_handler-requires-2
handlers-last_handler-requires-2 t c =
    (caught_less _ _ _ _ _ _ _ _ _ _ c.requires.fine c.next_handler-x.ensures c.in-Catch.is c.move_to-e.ensures c.give_target-f.ensures _ _ _ _ c.in_ok-p.ensures c.decreases, (search (in_fine, c.in_ok-p.ensures), c.next_handler-z.ensures))

pub handlers-returns : goal.handlers-returns
handlers-returns t c =
    catch_ok _ _ _ _ _ _ _ _ _ _ c.requires.fine c.next_handler-x.ensures c.in-Catch.is c.move_to-e.ensures c.give_target-f.ensures _ _ _ _ _ _ c.in_ok-p.ensures c.last_handler-2.ensures

-- ---- item

pub item-returns-then-is_kind_at : goal.item-returns-then-is_kind_at
item-returns-then-is_kind_at t c = search item-newline

-- ---- last_block

pub last_block-returns-in_err-p : goal.last_block-returns-in_err-p
last_block-returns-in_err-p t c = rw (met c.from_residual.ensures.1) (search (last-block-bad, c.in_err-p.ensures))

pub last_block-end_of_action-requires : goal.last_block-end_of_action-requires
last_block-end_of_action-requires t c = search (in_fine, c.in_ok-p.ensures)

pub last_block-returns : goal.last_block-returns
last_block-returns t c = search (last-block_ok, c.in_ok-p.ensures)

-- ---- last_handler

pub last_handler-overflow_add-q : goal.last_handler-overflow_add-q
last_handler-overflow_add-q t c = search finally-next

pub last_handler-last_block-requires : goal.last_handler-last_block-requires
last_handler-last_block-requires t c = (search finally_less, search finally-fine)

pub last_handler-returns-in-NoNewline : goal.last_handler-returns-in-NoNewline
last_handler-returns-in-NoNewline t c = search last_end

pub last_handler-returns-in-Item : goal.last_handler-returns-in-Item
last_handler-returns-in-Item t c = search last-item

pub last_handler-returns-in-Finally : goal.last_handler-returns-in-Finally
last_handler-returns-in-Finally t c = search last-finally

pub last_handler-returns-in-Catch : goal.last_handler-returns-in-Catch
last_handler-returns-in-Catch t c = search last-catch

-- ---- try_catch

pub try_catch-returns-in_err-p : goal.try_catch-returns-in_err-p
try_catch-returns-in_err-p t c = rw (met c.from_residual.ensures.1) (search (try-bad, c.in_err-p.ensures))

pub try_catch-handlers-requires : goal.try_catch-handlers-requires
try_catch-handlers-requires t c =
    (search (tried_less, c.in_ok-p.ensures), (search (in_fine, c.in_ok-p.ensures), search (tried_before, c.in_ok-p.ensures)))

pub try_catch-returns : goal.try_catch-returns
try_catch-returns t c = search (try_ok, c.in_ok-p.ensures)

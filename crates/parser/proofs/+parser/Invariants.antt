-- The measures of the cycle: four times the tokens that are left, and the readers that call one another at the same token in order.
-- The loop of a level has come from where it began to p, and no token was read without falling.
use Rattle.std.proofs.Common.{length, ◌-◌, ◌≡◌, ◌+◌, ◌*◌}
use Rattle.parser.proofs.LevelLaws.{Reaches}
use Rattle.parser.proofs.+parser.Given as goal

abbrev pub decreases-action : goal.decreases-action
decreases-action l = 4 * (length l.s.now - l.c.at)

abbrev pub decreases-actions : goal.decreases-actions
decreases-actions l = 4 * (length l.s.now - l.c.at) + 2

abbrev pub decreases-block : goal.decreases-block
decreases-block l = 4 * (length l.s.now - l.c.at)

abbrev pub decreases-blocks : goal.decreases-blocks
decreases-blocks l = 4 * (length l.s.now - l.c.at) + 3

abbrev pub decreases-handlers : goal.decreases-handlers
decreases-handlers l = 4 * (length l.s.now - l.c.at) + 1

abbrev pub decreases-item : goal.decreases-item
decreases-item l = 4 * (length l.s.now - l.c.at) + 1

abbrev pub decreases-last_block : goal.decreases-last_block
decreases-last_block l = 4 * (length l.s.now - l.c.at) + 1

abbrev pub decreases-last_handler : goal.decreases-last_handler
decreases-last_handler l = 4 * (length l.s.now - l.c.at)

abbrev pub decreases-try_catch : goal.decreases-try_catch
decreases-try_catch l = 4 * (length l.s.now - l.c.at) + 2

abbrev pub invariant-actions-loop-p : goal.invariant-actions-loop-p
invariant-actions-loop-p l = Reaches l.text l.s l.initial.events l.events l.initial.p l.room l.inside l.p × (length l.events ≡ length l.initial.events)

abbrev pub decreases-actions-loop-p : goal.decreases-actions-loop-p
decreases-actions-loop-p l = length l.s - l.p.at

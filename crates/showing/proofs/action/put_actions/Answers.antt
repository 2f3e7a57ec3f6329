-- The first byte stands in line 1.
use Rattle.std.proofs.Common.{rules}
use Rattle.lookups.proofs.Lines.{first_line}
use Rattle.showing.proofs.action.put_actions.Goals as goal

pub loop-i-init : goal.loop-i-init
loop-i-init c = search (rules, first_line)

-- The first byte stands in line 1.
use Rattle.std.proofs.Common.{rules}
use Rattle.lookups.proofs.Lines.{first_line}
use Rattle.reporting.proofs.warning.print_warnings.Goals as goal

pub loop-word-init : goal.loop-word-init
loop-word-init c = search (rules, first_line)

-- The labels of the first i words are put. Assumes nothing.
use Rattle.std.proofs.Common.{◌≡◌}
use Rattle.label_entries.proofs.Made.{made}
use Rattle.label_entries.proofs.put_labels.Given as goal

abbrev pub invariant-loop-i : goal.invariant-loop-i
invariant-loop-i l = l.labels ≡ made l.words l.initial.labels l.i

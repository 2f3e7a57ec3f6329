-- `labels::find_label` meets its contract. The invariant: the labels behind are passed. Assumes nothing.
use mathlib.Core.Path.{◌≡◌}
use Prim.Native.Nat.{◌+◌, ◌≤◌}
use lib.ListN.{length}
use Rattle.labels.specs.Index.{bucket_of}
use Rattle.labels.proofs.Searching.{Past}
use Rattle.labels.proofs.find_label.Given as goal

abbrev pub invariant-loop-next : goal.invariant-loop-next
invariant-loop-next l = (l.b ≡ bucket_of l.text l.s l.seed (length l.index) l.w) × ((l.steps + l.next ≤ l.m) × Past l.text l.s l.seed (length l.index) l.m l.out l.w l.next)

abbrev pub decreases-loop-next : goal.decreases-loop-next
decreases-loop-next l = l.next

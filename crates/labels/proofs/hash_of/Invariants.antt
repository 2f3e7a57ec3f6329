-- What is left to hash decides.
use Rattle.std.proofs.Common.{◌≡◌, ◌+◌, ◌<◌, drop}
use Rattle.labels.specs.Index.{hash_on}
use Rattle.labels.proofs.hash_of.Given as goal

abbrev pub invariant-loop-b : goal.invariant-loop-b
invariant-loop-b l = (l.h < 4294967296) × (hash_on l.seed (l.level + 1) l.name ≡ hash_on l.seed l.h (drop l.b-index l.name))

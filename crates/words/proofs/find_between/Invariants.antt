-- The search from `k` on decides.
use mathlib.Core.Path.{◌≡◌}
use Rattle.words.proofs.Tables.{among}
use Rattle.words.proofs.find_between.Given as goal

abbrev pub invariant-loop-k : goal.invariant-loop-k
invariant-loop-k l = among l.w l.starts l.letters l.lo l.hi ≡ among l.w l.starts l.letters l.k l.hi

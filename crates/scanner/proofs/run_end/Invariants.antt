-- From here the run ends where it ends from the start.
use mathlib.Core.Path.{◌≡◌}
use mathlib.Core.Bool.{Bool}
use Prim.Native.Nat.{ℕ}
use Rattle.scanner.specs.Ends.{Computes, run_end}
use Rattle.scanner.proofs.run_end.Given as goal

abbrev pub invariant-loop-i : goal.invariant-loop-i
invariant-loop-i g l = (p : ℕ → Bool) → Computes (goal.P-post g l.passes) p → run_end p l.s l.from ≡ run_end p l.s l.i

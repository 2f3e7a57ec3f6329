-- From here the string stops where it stops from the start.
use mathlib.Core.Path.{◌≡◌}
use Prim.Native.Nat.{◌+◌}
use lib.ListN.{drop}
use Rattle.scanner.specs.Ends.{string_stop, until_stop}
use Rattle.scanner.proofs.string_stop.Given as goal

abbrev pub invariant-loop-i : goal.invariant-loop-i
invariant-loop-i l = string_stop l.s l.from ≡ l.i + until_stop l.protected (drop l.i l.s)

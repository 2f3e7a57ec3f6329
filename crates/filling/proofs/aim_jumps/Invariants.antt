-- `filling::aim_jumps` meets its contract. The invariant: the first k are aimed. Assumes nothing.
use mathlib.Core.Path.{◌≡◌}
use Rattle.filling.specs.Filling.{aimed_to, far_to}
use Rattle.filling.proofs.aim_jumps.Given as goal

abbrev pub invariant-loop-k : goal.invariant-loop-k
invariant-loop-k l = (l.out ≡ aimed_to l.aims l.place l.n l.k l.initial.out) × (l.far ≡ far_to l.aims l.place l.n l.k)

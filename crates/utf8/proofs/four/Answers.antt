-- `utf8::four` meets its contract: the second and the third byte, then the fourth. Assumes nothing.
use mathlib.Core.Path.{refl}
use mathlib.Core.List.{[], ◌∷◌}
use Rattle.utf8.specs.Utf8.{◌to◌, tail}
use Rattle.utf8.proofs.Starts.{both}
use Rattle.utf8.proofs.four.Goals as goal

pub returns-then-three : goal.returns-then-three
returns-then-three c = let a = c.args in both (a.low to a.high ∷ tail ∷ []) (tail ∷ []) a.s.now 1 c.if-three.ensures c.in_range.ensures

pub returns-else-three : goal.returns-else-three
returns-else-three c =
    let a = c.args in rw c.if-three.false (both (a.low to a.high ∷ tail ∷ []) (tail ∷ []) a.s.now 1 c.if-three.ensures refl)

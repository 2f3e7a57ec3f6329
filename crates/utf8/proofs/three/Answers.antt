-- `utf8::three` meets its contract: the second byte, then the third. Assumes nothing.
use mathlib.Core.Path.{refl}
use mathlib.Core.List.{[], ◌∷◌}
use Rattle.utf8.specs.Utf8.{◌to◌, tail}
use Rattle.utf8.proofs.Starts.{both}
use Rattle.utf8.proofs.three.Goals as goal

pub returns-then-in_range : goal.returns-then-in_range
returns-then-in_range c =
    let a = c.args in both (a.low to a.high ∷ []) (tail ∷ []) a.s.now 1 c.if-in_range.ensures c.in_range-then-in_range.ensures

pub returns-else-in_range : goal.returns-else-in_range
returns-else-in_range c =
    let a = c.args in rw c.if-in_range.false (both (a.low to a.high ∷ []) (tail ∷ []) a.s.now 1 c.if-in_range.ensures refl)

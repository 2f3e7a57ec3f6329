-- `c_entries::tell_action` meets its contract. Assumes nothing.
use mathlib.Core.Path.{ap}
use mathlib.Core.List.{[], ◌∷◌}
use Prim.Native.Nat.{ℕ}
use lib.Seq.{sets}
use Rattle.c_entries.proofs.tell_action.Goals as goal

pub returns : goal.returns
returns c =
    let a = c.args in
    let act = a.action in
    ap (λ (n : ℕ). sets a.out.now 0 (n ∷ act.level ∷ act.first ∷ act.count ∷ [])) c.action_number.ensures

-- `operands::put_word` meets its contract. Assumes nothing.
use mathlib.Core.Path.{◌≡◌, refl, ap}
use mathlib.Core.List.{List, [], ◌∷◌}
use Prim.Native.Nat.{ℕ, zero, suc, ◌≤◌}
use native.Mathlib.Omega.{arith}
use lib.ListN.{length, set}
use Rattle.operands.proofs.put_word.Goals as goal

-- a store past the end
set_past : (l : List ℕ) (n w : ℕ) → length l ≤ n → l ≡ set l n w
set_past [] n w h = refl
set_past (x ∷ l) zero w h = absurd (omega arith)
set_past (x ∷ l) (suc n) w h = ap (λ (r : List ℕ). x ∷ r) (set_past l n w (omega arith))

pub returns-else-n-events : goal.returns-else-n-events
returns-else-n-events c =
    search set_past

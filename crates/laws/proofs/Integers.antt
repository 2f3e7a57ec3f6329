-- Laws on integers. Assumes nothing.
use mathlib.Core.Path.{◌≡◌, refl, ap}
use Prim.Native.Nat.{ℕ, zero, suc}
use native.Mathlib.Omega.{arith}
use lib.IntN.{pos, negsuc, neg_ℤ, ◌-ℤ◌}
use borrow.Author.Tests.{lt-ltb}

-- 0 less a number
pub zero_sub : (n : ℕ) → pos 0 -ℤ pos n ≡ neg_ℤ (pos n)
zero_sub zero = refl
zero_sub (suc n) = simp (lt-ltb 0 (suc n) (omega arith)) (ap negsuc (omega arith))

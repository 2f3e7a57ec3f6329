-- The last arm of a match on a number whose other arms are 0, 1, .., k - 1: the number is at least k. Assumes nothing.
use mathlib.Core.Path.{◌≡◌}
use Prim.Native.Nat.{ℕ, zero, suc, ◌≤◌}
use native.Mathlib.Omega.{arith}

-- what the place of the last arm knows: one refutation for each arm before it
abbrev pub NoneBelow : ℕ → ℕ → Type 0
NoneBelow x zero = Unit {0}
NoneBelow x (suc k) = NoneBelow x k × (x ≡ k → ⊥)

pub rest : (x k : ℕ) → NoneBelow x k → k ≤ x
rest x zero n = omega arith
rest x (suc k) n = let h = rest x k n.0 in let d = n.1 in omega arith

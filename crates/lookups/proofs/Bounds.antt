-- An action's operands are told by small numbers. Assumes nothing.
use mathlib.Core.Path.{◌≡◌, sym, subst}
use Prim.Native.Nat.{ℕ, ◌≤◌}
use native.Mathlib.Omega.{arith}
use Rattle.entries.specs.declared.Action.{Action}
use Rattle.entries.specs.Entries.{action_of}

pub small : (w : ℕ) (a : Action) → a ≡ action_of w → (a.first ≤ 131072) × (a.count ≤ 131072)
small w a e = subst (λ (q : Action). (q.first ≤ 131072) × (q.count ≤ 131072)) (sym e) (omega arith, omega arith)

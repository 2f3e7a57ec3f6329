-- Kind and content come back from a log's word. Assumes nothing.
use mathlib.Core.Path.{◌≡◌, refl}
use Prim.Native.Nat.{ℕ, zero, suc, ◌≤◌}
use native.Mathlib.Omega.{arith}
use Rattle.events.specs.declared.Event.{Event}
use Rattle.events.specs.declared.Event.TheVariants as E
use Rattle.events.specs.Log.{Holdable, log_word, kind_of, held_by, by_kind, event_of}

pub kind-is : (k v : ℕ) → Holdable v → kind_of (log_word k v) ≡ k
kind-is k v h = omega arith

pub held-is : (k v : ℕ) → Holdable v → held_by (log_word k v) ≡ v
held-is k v h = omega arith

pub event_is : (k v : ℕ) → Holdable v → event_of (log_word k v) ≡ by_kind k v
unfolding event_of
event_is k v h = λ j. by_kind (kind-is k v h j) (held-is k v h j)

-- ---- `event_of`

pub of-kind : (w k : ℕ) (e : Event) → kind_of w ≡ k → e ≡ by_kind k (held_by w) → e ≡ event_of w
unfolding event_of
of-kind w k e h g = simp h g

pub at_last : (w : ℕ) → 4 ≤ kind_of w → E.Closed ≡ event_of w
unfolding event_of
at_last w h = past (kind_of w) h
  where
    past : (k : ℕ) → 4 ≤ k → E.Closed ≡ by_kind k (held_by w)
    past zero g = absurd (omega arith)
    past (suc zero) g = absurd (omega arith)
    past (suc (suc zero)) g = absurd (omega arith)
    past (suc (suc (suc zero))) g = absurd (omega arith)
    past (suc (suc (suc (suc k)))) g = refl

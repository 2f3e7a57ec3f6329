-- How far a net goes: behind i actions from -3 i to i and the operands so far. Assumes nothing.
use mathlib.Core.Path.{◌≡◌, refl}
use mathlib.Core.Bool.{Bool, true, false, cond}
use mathlib.Core.Option.{Option, none, some}
use Prim.Native.Nat.{ℕ, suc, ◌+◌, ◌-◌, ◌*◌, ◌≤◌, ◌<◌}
use native.Mathlib.Omega.{arith}
use lib.Dec.{ltb}
use lib.IntN.{ℤ, pos, negsuc, ◌+ℤ◌, sub_ℕ}
use borrow.Author.Tests.{ltb-true}
use Rattle.names.specs.declared.ActionName.{ActionName}
use Rattle.names.specs.declared.ActionName.TheVariants as A
use Rattle.actions.specs.Numbers.{is_action, one_of}
use Rattle.entries.specs.declared.Net.{Net}
use Rattle.entries.specs.declared.Net.TheVariants as N
use Rattle.pcode.specs.Deltas.{delta_of, fixed_delta, plus_one, minus_one, minus_two, minus_three, undetermined, functions}
use Rattle.entries.specs.Levels.{SmallNet, NetFits}
use Rattle.nets.specs.Nets.{moved_by}

-- ---- one delta: from -3 to the number of values, or 1

abbrev pub Near : ℕ → ℤ → Type 0
Near v (pos d) = d ≤ suc v
Near v (negsuc d) = d < 3

-- near, if it is determined at all
abbrev pub NearIf : ℕ → Option ℤ → Type 0
NearIf v none = Unit {0}
NearIf v (some z) = Near v z

either : {X : Type 0} (P : X → Type 0) (t : Bool) (x y : X) → P x → P y → P (cond t x y)
either P true x y h g = h
either P false x y h g = g

fixed_near : (v : ℕ) (a : ActionName) → Near v (fixed_delta a)
unfolding fixed_delta
fixed_near v a =
    either (Near v) (one_of a plus_one) _ _ (omega arith)
    (either (Near v) (one_of a minus_one) _ _ (omega arith)
    (either (Near v) (one_of a minus_two) _ _ (omega arith)
    (either (Near v) (one_of a minus_three) _ _ (omega arith) (omega arith))))

pub delta_near : (a : ActionName) (v : ℕ) (empty : Bool) → NearIf v (delta_of a v empty)
unfolding delta_of
delta_near a v empty =
    either (NearIf v) (one_of a undetermined) _ _ tt
    (either (Near v) (is_action a A.Push) _ _ (omega arith)
    (either (Near v) (one_of a functions) _ _ (either (Near v) empty _ _ (omega arith) (omega arith)) (fixed_near v a)))

-- ---- the net behind i actions with s operands

abbrev pub Bounded : ℕ → ℕ → Net → Type 0
Bounded i s (N.Height (pos h)) = h ≤ i + s
Bounded i s (N.Height (negsuc h)) = h < 3 * i
Bounded i s (N.Undetermined a) = a < i

difference : (i s a b : ℕ) → a ≤ i + s → b ≤ 3 * i → Bounded i s (N.Height (sub_ℕ a b))
difference i s a b h k = by (ltb a b) refl
  where
    by : (c : Bool) → ltb a b ≡ c → Bounded i s (N.Height (cond c (negsuc (b - suc a)) (pos (a - b))))
    by true e = omega (arith, ltb-true)
    by false e = omega arith

sum : (i s r : ℕ) (h z : ℤ) → s ≤ r → Bounded i s (N.Height h) → Near (r - s) z → Bounded (suc i) r (N.Height (h +ℤ z))
sum i s r (pos a) (pos b) l h k = omega arith
sum i s r (pos a) (negsuc b) l h k = difference (suc i) r a (suc b) (omega arith) (omega arith)
sum i s r (negsuc a) (pos b) l h k = difference (suc i) r b (suc a) (omega arith) (omega arith)
sum i s r (negsuc a) (negsuc b) l h k = omega arith

pub moved_bounded : (i s r : ℕ) (o : Option ℤ) (t : Net) → s ≤ r → Bounded i s t → NearIf (r - s) o → Bounded (suc i) r (moved_by o i t)
moved_bounded i s r o (N.Undetermined a) l b k = omega arith
moved_bounded i s r none (N.Height h) l b k = omega arith
moved_bounded i s r (some z) (N.Height h) l b k = sum i s r h z l b k

pub bounded_small : (i s : ℕ) (t : Net) → i ≤ 65536 → s ≤ 65536 → Bounded i s t → SmallNet t
bounded_small i s (N.Height (pos h)) l k b = omega arith
bounded_small i s (N.Height (negsuc h)) l k b = omega arith
bounded_small i s (N.Undetermined a) l k b = omega arith

-- ---- one move of any net that a word tells

within : (a b : ℕ) → a < 393216 → b < 393216 → NetFits (N.Height (sub_ℕ a b))
within a b g h = by (ltb a b) refl
  where
    by : (c : Bool) → ltb a b ≡ c → NetFits (N.Height (cond c (negsuc (b - suc a)) (pos (a - b))))
    by true e = omega arith
    by false e = omega arith

pub moved-fits : (a v : ℕ) (o : Option ℤ) (t : Net) → a ≤ 65536 → v ≤ 65536 → SmallNet t → NearIf v o → NetFits (moved_by o a t)
moved-fits a v o (N.Undetermined b) l k s n = omega arith
moved-fits a v none (N.Height h) l k s n = omega arith
moved-fits a v (some (pos d)) (N.Height (pos h)) l k s n = omega arith
moved-fits a v (some (negsuc d)) (N.Height (pos h)) l k s n = within h (suc d) (omega arith) (omega arith)
moved-fits a v (some (pos d)) (N.Height (negsuc h)) l k s n = within d (suc h) (omega arith) (omega arith)
moved-fits a v (some (negsuc d)) (N.Height (negsuc h)) l k s n = omega arith

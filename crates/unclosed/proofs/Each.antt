-- Laws of lists that are related entry by entry. Assumes nothing.
use mathlib.Core.Path.{◌≡◌, refl, ap}
use mathlib.Core.List.{List, ◌∷◌, ◌++◌, map}
use Prim.Native.Nat.{ℕ, zero, suc}
use lib.ListN.{length, take}
use Rattle.unclosed.specs.Alike.{Each, none, next}

module _ {X : Type 0} {P : X → X → Type 0} where
  pub each_append : {l r k m : List X} → Each P l r → Each P k m → Each P (l ++ k) (r ++ m)
  each_append none g = g
  each_append (next p e) g = next p (each_append e g)

  pub each_take : (n : ℕ) {l r : List X} → Each P l r → Each P (take n l) (take n r)
  each_take zero e = none
  each_take (suc n) none = none
  each_take (suc n) (next p e) = next p (each_take n e)

  pub each_length : {l r : List X} → Each P l r → length l ≡ length r
  each_length none = refl
  each_length (next p e) = ap suc (each_length e)

  -- through a function
  pub each_map : {Y : Type 0} {Q : Y → Y → Type 0} (f : X → Y) → ((a b : X) → P a b → Q (f a) (f b)) → {l r : List X} → Each P l r → Each Q (map f l) (map f r)
  each_map f h none = none
  each_map f h (next {a = a} {b = b} p e) = next (h a b p) (each_map f h e)

pub each_same : {X : Type 0} {l r : List X} → Each ◌≡◌ l r → l ≡ r
each_same none = refl
each_same (next p e) = λ i. p i ∷ each_same e i

-- A match on a number: what a function says of each number of an arm, it says of the number matched on. Assumes nothing.
use mathlib.Core.Path.{◌≡◌, refl, ap, sym, ◌∙◌}
use mathlib.Core.Bool.{Bool, false, cond, ◌||◌}
use mathlib.Core.Logic.{inl, inr}
use mathlib.Core.List.{List, [], ◌∷◌, map}
use Prim.Native.Nat.{ℕ, ◌+◌, ◌-◌, ◌<◌, ◌≤◌}
use native.Mathlib.Omega.{arith}
use lib.Dec.{eqb}
use lib.ListN.{length, replicate}
use borrow.Author.Tests.{ne_eqb}
use types.Run.{OneOf}
use Rattle.laws.proofs.Tabulate.{agree, tabulate}

-- whether a number is one of a list
abbrev pub any_of : List ℕ → ℕ → Bool
any_of [] n = false
any_of (k ∷ ks) n = eqb n k || any_of ks n

pub none_of : (ks : List ℕ) (n : ℕ) → (OneOf ks n → ⊥) → any_of ks n ≡ false
none_of [] n h = refl
none_of (k ∷ []) n h = simp (ne_eqb n k h)
none_of (k ∷ j ∷ ks) n h = simp (ne_eqb n k (λ e. h (inl e))) (none_of (j ∷ ks) n (λ o. h (inr o)))

-- two functions that are alike on m numbers from a on
pub alike : {S : Type 0} (f g : ℕ → S) (n a m : ℕ) → tabulate (λ k. f (a + k)) 0 m ≡ tabulate (λ k. g (a + k)) 0 m → a ≤ n → n < a + m → f n ≡ g n
alike f g n a m e h l =
    let q : a + (n - a) ≡ n = omega arith in
    ap f (sym q) ∙ agree (λ k. f (a + k)) (λ k. g (a + k)) m (n - a) e (omega arith) ∙ ap g q

module _ {S : Type 0} (f : ℕ → S) (v : S) (n : ℕ) where
  -- an arm of several numbers
  pub arm : (ks : List ℕ) → map f ks ≡ replicate (length ks) v → OneOf ks n → v ≡ f n
  arm [] e o = absurd o
  arm (k ∷ []) e o = let h : f k ≡ v = cc in sym (ap f o ∙ h)
  arm (k ∷ j ∷ ks) e (inl o) = let h : f k ≡ v = cc in sym (ap f o ∙ h)
  arm (k ∷ j ∷ ks) e (inr o) = let h : map f (j ∷ ks) ≡ replicate (length (j ∷ ks)) v = cc in arm (j ∷ ks) h o

  -- an arm of a range: m numbers from a on
  pub range : (a m : ℕ) → tabulate (λ k. f (a + k)) 0 m ≡ tabulate (λ k. v) 0 m → a ≤ n → n < a + m → v ≡ f n
  range a m e h g = sym (alike f (λ k. v) n a m e h g)

-- the arm of what is left, within a range: the numbers that `skip` tells, those of other arms, do not count
pub other : {S : Type 0} (f : ℕ → S) (v : S) (n : ℕ) (skip : ℕ → Bool) (a m : ℕ)
    → tabulate (λ k. cond (skip (a + k)) v (f (a + k))) 0 m ≡ tabulate (λ k. v) 0 m
    → skip n ≡ false → a ≤ n → n < a + m → v ≡ f n
other f v n skip a m e o h g =
    range (λ k. cond (skip k) v (f k)) v n a m e h g ∙ ap (λ (t : Bool). cond t v (f n)) o

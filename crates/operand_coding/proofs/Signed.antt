-- A signed number of 32 bits as it is held, taken as a number that is not negative. Assumes nothing.
use mathlib.Core.Path.{◌≡◌, refl, sym, ap, subst, ◌∙◌}
use mathlib.Core.Bool.{true, false}
use Prim.Native.Nat.{ℕ, suc, ◌+◌, ◌-◌, ◌%◌, ◌<◌}
use native.Mathlib.Omega.{arith}
use lib.Dec.{T}
use lib.IntN.{ℤ, pos, negsuc, nat_abs, ◌+ℤ◌}
use lib.Signed.{lt_z, non_neg}
use mir.Syntax.{w32, w64}
use mir.Val.{Fits, SFits, to_z, of_z}
use mir.ValLaws.{to_z-of_z}
use borrow.Author.Tests.{le-ltb}
use Rattle.std.specs.Prelude.{Some}
use Rattle.classes.specs.Lexemes.{acting_as}
use Rattle.classes.proofs.OneToken.{acts_below, acts_above}
use Rattle.movies.specs.Movie.{integer, number_in}
use Rattle.action_records.specs.Fields.{two's_complement}

acting : (z : ℤ) → acting_as (Some z) ≡ number_in (integer z)
acting (pos n) = refl
acting (negsuc n) = refl

acting_below : (z : ℤ) → SFits w32 z → acting_as (Some z) < 4294967296
acting_below (pos n) f = let h = f.sfits in omega arith
acting_below (negsuc n) f = omega arith

-- 4,294,967,296 more
abbrev lifted : ℤ → ℕ
lifted (pos n) = n + 4294967296
lifted (negsuc n) = 4294967295 - n

module _ (z : ℤ) (f : SFits w32 z) where
  pub negative : lt_z (to_z w32 (of_z w32 z)) (pos 0) ≡ true → (0 ≡ number_in (integer z)) × (0 < 4294967296)
  negative e = (acts_below z f e ∙ acting z, omega arith)

  pub natural : lt_z (to_z w32 (of_z w32 z)) (pos 0) ≡ false
      → (nat_abs (to_z w32 (of_z w32 z)) ≡ number_in (integer z)) × (nat_abs (to_z w32 (of_z w32 z)) < 4294967296)
  natural e = let a = acts_above z f e in (a ∙ acting z, omega (arith, a, acting_below z f))

  pub wide : SFits w64 (to_z w32 (of_z w32 z))
  wide = subst (SFits w64) (sym (to_z-of_z w32 z f)) (by z f)
    where
      by : (x : ℤ) → SFits w32 x → SFits w64 x
      by (pos n) g = let h = g.sfits in record { sfits = omega arith }
      by (negsuc n) g = let h = g.sfits in record { sfits = omega arith }

  abbrev sum : ℤ
  sum = to_z w64 (of_z w64 (to_z w32 (of_z w32 z))) +ℤ pos 4294967296

  whole : sum ≡ pos (lifted z)
  whole = ap (λ x. x +ℤ pos 4294967296) (to_z-of_z w64 (to_z w32 (of_z w32 z)) wide ∙ to_z-of_z w32 z f) ∙ by z f
    where
      by : (x : ℤ) → SFits w32 x → x +ℤ pos 4294967296 ≡ pos (lifted x)
      by (pos n) g = refl
      by (negsuc n) g = let h = g.sfits in simp (le-ltb 4294967296 (suc n) (omega arith)) (ap pos (omega arith))

  small : lifted z < 8589934592
  small = by z f
    where
      by : (x : ℤ) → SFits w32 x → lifted x < 8589934592
      by (pos n) g = let h = g.sfits in omega arith
      by (negsuc n) g = omega arith

  pub sum_fits : SFits w64 sum
  sum_fits = subst (SFits w64) (sym whole) (record { sfits = omega (arith, small) })

  kept : to_z w64 (of_z w64 sum) ≡ pos (lifted z)
  kept = to_z-of_z w64 sum sum_fits ∙ whole

  pub sum_back : T (non_neg (to_z w64 (of_z w64 sum))) × Fits w64 (nat_abs (to_z w64 (of_z w64 sum)))
  sum_back = subst (λ x. T (non_neg x) × Fits w64 (nat_abs x)) (sym kept) (tt, record { fits = omega (arith, small) })

  pub low_bits : nat_abs (to_z w64 (of_z w64 sum)) % 4294967296 ≡ two's_complement 32 z
  low_bits = ap (λ x. nat_abs x % 4294967296) kept ∙ by z f
    where
      by : (x : ℤ) → SFits w32 x → lifted x % 4294967296 ≡ two's_complement 32 x
      by (pos n) g = let h = g.sfits in omega arith
      by (negsuc n) g = let h = g.sfits in omega arith

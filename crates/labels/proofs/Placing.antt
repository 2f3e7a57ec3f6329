-- One label placed among others, and labels one by one. Assumes nothing.
use mathlib.Core.Path.{◌≡◌, refl, ap, ◌∙◌}
use mathlib.Core.Bool.{Bool, true, false, cond}
use mathlib.Core.List.{List, [], ◌∷◌, ◌++◌}
use Prim.Native.Nat.{ℕ, suc, ◌+◌, ◌≤◌, ◌<◌}
use native.Mathlib.Omega.{arith}
use lib.ListN.{length, get_or, set}
use Rattle.entries.specs.declared.Label.{Label}
use Rattle.entries.specs.Entries.{label_of}
use Rattle.lexemes.specs.Lexemes.{same_name}
use Rattle.label_names.specs.Names.{name_of, is_named}
use Rattle.label_names.proofs.Named.{not_named, named}
use Rattle.labels.specs.Labels.{is_same, moved, first_same, placed, merged}

module _ (text s : List ℕ) where
  -- ---- two labels

  pub named-same : (w v : ℕ) {l : Label} {name : List ℕ} {r : Bool} → l ≡ label_of w → name ≡ name_of text s w → r ≡ is_named text s l.level name v → r ≡ is_same text s w v
  unfolding is_same
  named-same w v k e f = f ∙ (λ i. is_named text s (k i).level (e i) v)

  pub other_level : (w v : ℕ) → ((label_of w).level ≡ (label_of v).level → ⊥) → false ≡ is_same text s w v
  unfolding is_same
  other_level w v d = not_named text s (label_of w).level (name_of text s w) v refl d

  pub one-level : (w v : ℕ) → (label_of w).level ≡ (label_of v).level → is_same text s w v ≡ same_name (name_of text s w) (name_of text s v)
  unfolding is_same
  one-level w v e = named text s (label_of w).level (name_of text s w) v e

  -- ---- one label among others

  -- where it is, it changes; where it is not, it comes behind
  pub placed-found : (w : ℕ) (l : List ℕ) → first_same text s w l < length l
      → placed text s w l ≡ set l (first_same text s w l) (moved w (get_or l (first_same text s w l) 0))
  placed-found w [] h = absurd (omega arith)
  placed-found w (v ∷ vs) h = by (is_same text s w v) h (placed-found w vs)
    where
      k : ℕ
      k = first_same text s w vs

      by : (t : Bool) → cond t 0 (suc k) < suc (length vs)
          → (k < length vs → placed text s w vs ≡ set vs k (moved w (get_or vs k 0)))
          → cond t (moved w v ∷ vs) (v ∷ placed text s w vs) ≡ set (v ∷ vs) (cond t 0 (suc k)) (moved w (get_or (v ∷ vs) (cond t 0 (suc k)) 0))
      by true g f = refl
      by false g f = ap (λ (q : List ℕ). v ∷ q) (f (omega arith))

  pub placed_new : (w : ℕ) (l : List ℕ) → length l ≤ first_same text s w l → placed text s w l ≡ l ++ w ∷ []
  placed_new w [] h = refl
  placed_new w (v ∷ vs) h = by (is_same text s w v) h (placed_new w vs)
    where
      k : ℕ
      k = first_same text s w vs

      by : (t : Bool) → suc (length vs) ≤ cond t 0 (suc k) → (length vs ≤ k → placed text s w vs ≡ vs ++ w ∷ [])
          → cond t (moved w v ∷ vs) (v ∷ placed text s w vs) ≡ v ∷ (vs ++ w ∷ [])
      by true g f = absurd (omega arith)
      by false g f = ap (λ (q : List ℕ). v ∷ q) (f (omega arith))

  pub record Length (w : ℕ) (l : List ℕ) : Type 0 where
    pub low : length l ≤ length (placed text s w l)
    pub high : length (placed text s w l) ≤ suc (length l)

  pub placed-length : (w : ℕ) (l : List ℕ) → Length w l
  placed-length w [] = record { low = omega arith; high = omega arith }
  placed-length w (v ∷ vs) =
      let i = placed-length w vs in
      record { low = by-low (is_same text s w v) i.low; high = by_high (is_same text s w v) i.high }
    where
      by-low : (t : Bool) → length vs ≤ length (placed text s w vs) → suc (length vs) ≤ length (cond t (moved w v ∷ vs) (v ∷ placed text s w vs))
      by-low true g = omega arith
      by-low false g = omega arith

      by_high : (t : Bool) → length (placed text s w vs) ≤ suc (length vs) → length (cond t (moved w v ∷ vs) (v ∷ placed text s w vs)) ≤ suc (suc (length vs))
      by_high true g = omega arith
      by_high false g = omega arith

  -- ---- labels one by one

  pub merged-append : (out l r : List ℕ) → merged text s out (l ++ r) ≡ merged text s (merged text s out l) r
  merged-append out [] r = refl
  merged-append out (w ∷ l) r = merged-append (placed text s w out) l r

  merged-more : (out l : List ℕ) → length (merged text s out l) ≤ length out + length l
  merged-more out [] = omega arith
  merged-more out (w ∷ l) = omega (arith, merged-more (placed text s w out) l, (placed-length w out).high)

  pub merged-length : (l : List ℕ) → length (merged text s [] l) ≤ length l
  merged-length l = omega (arith, merged-more [] l)

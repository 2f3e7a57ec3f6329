-- Labels are the same where level and name are equal; among merged labels none is the same as another. Assumes nothing.
use mathlib.Core.Path.{◌≡◌, refl, ap, sym, ◌∙◌}
use mathlib.Core.Bool.{Bool, true, false, cond}
use mathlib.Core.List.{List, [], ◌∷◌}
use Prim.Native.Nat.{ℕ, zero, suc, ◌<◌}
use native.Mathlib.Omega.{arith}
use lib.ListN.{length, get_or}
use Rattle.entries.specs.Entries.{label_of}
use Rattle.label_names.specs.Names.{name_of}
use Rattle.label_names.proofs.Named.{same-token, named_equal, equal_named}
use Rattle.labels.specs.Labels.{is_same, moved, first_same, placed, merged}
use Rattle.labels.specs.Index.{Apart, Distinct}

module _ (text s : List ℕ) where
  -- ---- two labels

  pub record Equal (w v : ℕ) : Type 0 where
    pub levels : (label_of w).level ≡ (label_of v).level
    pub names : name_of text s w ≡ name_of text s v

  pub same_equal : (w v : ℕ) → is_same text s w v ≡ true → Equal w v
  unfolding is_same
  same_equal w v e =
      let h = named_equal text s (label_of w).level (name_of text s w) v e in
      record { levels = h.0; names = h.1 }

  pub equal_same : (w v : ℕ) → Equal w v → is_same text s w v ≡ true
  unfolding is_same
  equal_same w v e = equal_named text s (label_of w).level (name_of text s w) v e.levels e.names

  turned : {w v : ℕ} → Equal w v → Equal v w
  turned e = record { levels = sym e.levels; names = sym e.names }

  through : {w v x : ℕ} → Equal w v → Equal v x → Equal w x
  through e f = record { levels = e.levels ∙ f.levels; names = e.names ∙ f.names }

  pub moved_equal : (w v : ℕ) → Equal (moved w v) v
  moved_equal w v =
      let t : (label_of (moved w v)).token ≡ (label_of v).token = omega arith in
      record { levels = omega arith; names = same-token text s (moved w v) v t }

  pub not_both : {b : Bool} → b ≡ true → b ≡ false → ⊥
  not_both e f = let z : ◌≡◌ {A = ℕ} 0 1 = cc in omega arith

  is_false : (b : Bool) → (b ≡ true → ⊥) → b ≡ false
  is_false true h = absurd (h refl)
  is_false false h = refl

  -- a label in the place of its equal
  replaced : {w v : ℕ} (x : ℕ) → Equal w v → is_same text s v x ≡ false → is_same text s w x ≡ false
  replaced {w} {v} x e f = is_false _ (λ t. not_both (equal_same v x (through (turned e) (same_equal w x t))) f)

  other_way : (w v : ℕ) → is_same text s w v ≡ false → is_same text s v w ≡ false
  other_way w v f = is_false _ (λ t. not_both (equal_same w v (turned (same_equal v w t))) f)

  -- ---- labels of which none is the same as another

  apart_moved : (w v : ℕ) (l : List ℕ) → Apart text s v l → Apart text s (moved w v) l
  apart_moved w v [] a = a
  apart_moved w v (x ∷ l) a = (replaced x (moved_equal w v) a.0, apart_moved w v l a.1)

  apart_placed : (w v : ℕ) (l : List ℕ) → is_same text s v w ≡ false → Apart text s v l → Apart text s v (placed text s w l)
  apart_placed w v [] f a = (f, a)
  apart_placed w v (x ∷ l) f a = by (is_same text s w x) (apart_placed w v l f a.1)
    where
      by : (t : Bool) → Apart text s v (placed text s w l) → Apart text s v (cond t (moved w x ∷ l) (x ∷ placed text s w l))
      by true r = (other_way (moved w x) v (replaced v (moved_equal w x) (other_way v x a.0)), a.1)
      by false r = (a.0, r)

  distinct-placed : (w : ℕ) (l : List ℕ) → Distinct text s l → Distinct text s (placed text s w l)
  distinct-placed w [] d = (d, d)
  distinct-placed w (v ∷ l) d = by (is_same text s w v) refl (distinct-placed w l d.1)
    where
      by : (t : Bool) → is_same text s w v ≡ t → Distinct text s (placed text s w l) → Distinct text s (cond t (moved w v ∷ l) (v ∷ placed text s w l))
      by true e r = (apart_moved w v l d.0, d.1)
      by false e r = (apart_placed w v l (other_way w v e) d.0, r)

  merged_on : (out l : List ℕ) → Distinct text s out → Distinct text s (merged text s out l)
  merged_on out [] d = d
  merged_on out (w ∷ l) d = merged_on (placed text s w out) l (distinct-placed w out d)

  pub merged-distinct : (l : List ℕ) → Distinct text s (merged text s [] l)
  merged-distinct l = merged_on [] l tt

  apart_at : (v : ℕ) (l : List ℕ) (j : ℕ) → Apart text s v l → j < length l → is_same text s v (get_or l j 0) ≡ false
  apart_at v [] j a h = absurd (omega arith)
  apart_at v (x ∷ l) zero a h = a.0
  apart_at v (x ∷ l) (suc j) a h = apart_at v l j a.1 (omega arith)

  -- ---- so a label that is found is the first one

  pub found_first : (w : ℕ) (l : List ℕ) (j : ℕ) → Distinct text s l → j < length l → is_same text s w (get_or l j 0) ≡ true → j ≡ first_same text s w l
  found_first w [] j d h e = absurd (omega arith)
  found_first w (v ∷ l) zero d h e = sym (simp e)
  found_first w (v ∷ l) (suc j) d h e = by (is_same text s w v) refl (found_first w l j d.1 (omega arith) e)
    where
      by : (t : Bool) → is_same text s w v ≡ t → j ≡ first_same text s w l → suc j ≡ cond t 0 (suc (first_same text s w l))
      by true f r =
          absurd (not_both (equal_same v (get_or l j 0) (through (turned (same_equal w v f)) (same_equal w _ e))) (apart_at v l j d.0 (omega arith)))
      by false f r = ap suc r

  pub none_found : (w : ℕ) (l : List ℕ) → ((i : ℕ) → i < length l → is_same text s w (get_or l i 0) ≡ true → ⊥) → length l ≡ first_same text s w l
  none_found w [] h = refl
  none_found w (v ∷ l) h = simp (is_false _ (h 0 (omega arith))) (ap suc (none_found w l (λ i g. h (suc i) (omega arith))))

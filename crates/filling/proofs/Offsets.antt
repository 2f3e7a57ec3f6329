-- Offsets in 16 bits. Assumes nothing.
use mathlib.Core.Path.{◌≡◌, refl, sym, ap, ◌∙◌}
use mathlib.Core.Bool.{Bool, true, false, cond}
use mathlib.Core.List.{List}
use Prim.Native.Nat.{ℕ, zero, suc, ◌+◌, ◌-◌, ◌≤◌, ◌<◌, min}
use native.Mathlib.Omega.{arith}
use native.Mathlib.Numerals.{add-one}
use lib.Dec.{ltb}
use lib.IntN.{pos, negsuc, sub_ℕ}
use lib.ListN.{length, get_or}
use lib.Seq.{length-sets}
use borrow.Author.Tests.{lt-ltb, le-ltb, ltb-true, ltb-false}
use Rattle.action_records.specs.Fields.{low_first, two's_complement, is_signed16}
use Rattle.filling.specs.Pieces.{with16}
use Rattle.filling.specs.Filling.{unless, byte_at, action_at, offset_at, aimed, far_at, aim_at, aimed_to, far_to}

forward : (a b : ℕ) → b ≤ a → sub_ℕ a b ≡ pos (a - b)
forward a b h = ap (λ (t : Bool). cond t (negsuc (b - suc a)) (pos (a - b))) (le-ltb a b h)

back : (a b : ℕ) → a < b → sub_ℕ a b ≡ negsuc (b - suc a)
back a b h = ap (λ (t : Bool). cond t (negsuc (b - suc a)) (pos (a - b))) (lt-ltb a b h)

pub number-forward : (a b : ℕ) → b ≤ a → a - b ≡ two's_complement 16 (sub_ℕ a b)
number-forward a b h = sym (ap (two's_complement 16) (forward a b h))

pub number_back : (a b : ℕ) → a < b → 65536 - (b - a) ≡ two's_complement 16 (sub_ℕ a b)
number_back a b h = let e : 65536 - (b - a) ≡ 65536 - suc (b - suc a) = omega arith in e ∙ sym (ap (two's_complement 16) (back a b h))

pub near_forward : (a b : ℕ) → b ≤ a → ltb (a - b) 32768 ≡ is_signed16 (sub_ℕ a b)
near_forward a b h = sym (ap is_signed16 (forward a b h))

pub near_back : (a b : ℕ) → a < b → ltb (b - a) 32769 ≡ is_signed16 (sub_ℕ a b)
near_back a b h = by (ltb (b - a) 32769) refl ∙ sym (ap is_signed16 (back a b h))
  where
    by : (t : Bool) → ltb (b - a) 32769 ≡ t → ltb (b - a) 32769 ≡ ltb (b - suc a) 32768
    by true e = e ∙ sym (lt-ltb (b - suc a) 32768 (omega (arith, ltb-true (b - a) 32769 e)))
    by false e = e ∙ sym (le-ltb (b - suc a) 32768 (omega (arith, ltb-false (b - a) 32769 e)))

-- ---- a jump, and the jumps of a level one after another

module _ (place : List ℕ) (n k : ℕ) where
  offset-is : (p from at to : ℕ) → from ≡ byte_at place (k + 1) → at ≡ min n (suc p - 1) → to ≡ byte_at place at
      → sub_ℕ to from ≡ offset_at place n k p
  offset-is p from at to ef ea et =
      let e : at ≡ min p n = omega arith in
      ap (λ (i : ℕ). sub_ℕ i from) (et ∙ ap (byte_at place) e) ∙ ap (sub_ℕ (byte_at place (min p n))) (ef ∙ ap (byte_at place) (add-one k))

  -- what is computed of a jump's target, from bytes read at the places that were computed
  pub jump-aimed : (aim from at to start number : ℕ) (out out' : List ℕ) → (aim ≡ 0 → ⊥) → from ≡ byte_at place (k + 1) → at ≡ min n (aim - 1)
      → to ≡ byte_at place at → number ≡ two's_complement 16 (sub_ℕ to from) → start ≡ byte_at place k
      → out' ≡ with16 (start + 3) number out → out' ≡ aimed place n k aim out
  jump-aimed zero from at to start number out out' some ef ea et en es eo = absurd (some refl)
  jump-aimed (suc p) from at to start number out out' some ef ea et en es eo =
      eo
      ∙ ap (λ (i : ℕ). with16 (i + 3) number out) es
      ∙ ap (λ (i : ℕ). with16 (byte_at place k + 3) i out) (en ∙ ap (two's_complement 16) (offset-is p from at to ef ea et))

  pub jump_far : (aim from at to a r : ℕ) (near : Bool) → (aim ≡ 0 → ⊥) → from ≡ byte_at place (k + 1) → at ≡ min n (aim - 1)
      → to ≡ byte_at place at → near ≡ is_signed16 (sub_ℕ to from) → a ≡ action_at place k → r ≡ unless near a → r ≡ far_at place n k aim
  jump_far zero from at to a r near some ef ea et en es er = absurd (some refl)
  jump_far (suc p) from at to a r near some ef ea et en es er =
      er
      ∙ ap (λ (t : Bool). unless t a) (en ∙ ap is_signed16 (offset-is p from at to ef ea et))
      ∙ ap (unless (is_signed16 (offset_at place n k p))) es

length-aimed : (place : List ℕ) (n k aim : ℕ) (out : List ℕ) → length (aimed place n k aim out) ≡ length out
length-aimed place n k zero out = refl
length-aimed place n k (suc p) out = length-sets out (byte_at place k + 3) (low_first 2 (two's_complement 16 (offset_at place n k p)))

module _ (aims place : List ℕ) (n : ℕ) where
  pub length-aimed-to : (k : ℕ) (out : List ℕ) → length (aimed_to aims place n k out) ≡ length out
  length-aimed-to zero out = refl
  length-aimed-to (suc k) out =
      length-aimed place n k (aim_at aims place k) (aimed_to aims place n k out) ∙ length-aimed-to k out

  module _ (k act aim : ℕ) (ea : act ≡ action_at place k) (eb : aim ≡ get_or aims act 0) where
    aim-is : aim ≡ aim_at aims place k
    aim-is = eb ∙ ap (λ (i : ℕ). get_or aims i 0) ea

    pub next-aimed : (x y z : List ℕ) → y ≡ aimed_to aims place n k x → z ≡ aimed place n k aim y → z ≡ aimed_to aims place n (k + 1) x
    next-aimed x y z e f =
        f ∙ ap (λ (i : ℕ). aimed place n k i y) aim-is ∙ ap (aimed place n k (aim_at aims place k)) e
        ∙ sym (ap (λ (i : ℕ). aimed_to aims place n i x) (add-one k))

    pub next_far : (far next r : ℕ) → far ≡ far_to aims place n k → next ≡ far_at place n k aim → r ≡ min far next → r ≡ far_to aims place n (k + 1)
    next_far far next r e f g =
        g ∙ ap (λ (i : ℕ). min far i) (f ∙ ap (far_at place n k) aim-is) ∙ ap (λ (i : ℕ). min i (far_at place n k (aim_at aims place k))) e
        ∙ sym (ap (far_to aims place n) (add-one k))

-- Digits one after another, and whole numbers by what was tested. Assumes nothing.
use mathlib.Core.Path.{◌≡◌, refl, sym, ap, ◌∙◌}
use mathlib.Core.Bool.{Bool, true, false, cond}
use mathlib.Core.List.{List, [], ◌∷◌}
use Prim.Native.Nat.{ℕ, ◌+◌, ◌*◌, ◌-◌, ◌≤◌, ◌<◌}
use native.Mathlib.Numerals.{add-one}
use native.Mathlib.Omega.{arith}
use lib.Dec.{eqb, leb}
use lib.ListN.{length, take, drop, get_or, drop_of_length-le, length-drop}
use lib.Seq.{drop-cons, take_all}
use borrow.Author.Tests.{le-leb, lt-leb, leb-true, leb-false, lt-ltb, le-ltb, eqb-true}
use Rattle.std.specs.Prelude.{Option, Some, None}
use Rattle.scanner.specs.Bytes.{is_digit}
use Rattle.scanner.specs.Ends.{digits_end}
use Rattle.scanner.proofs.Runs.{inside}
use Rattle.numbers.specs.Integers.{with_byte, value_from, value_of, up_to, is_natural, natural, has_minus, minus_end, largest, with_sign, integer}

module _ (n b : ℕ) where
  byte_grows : n ≤ with_byte n b
  unfolding with_byte
  byte_grows = by (is_digit b)
    where
      by : (t : Bool) → n ≤ cond t (n * 10 + (b - 48)) n
      by true = omega arith
      by false = omega arith

value_grows : (s : List ℕ) (n : ℕ) → n ≤ value_from n s
unfolding value_from
value_grows [] n = omega arith
value_grows (b ∷ s) n = omega (arith, byte_grows n b, value_grows s (with_byte n b))

module _ (s : List ℕ) (n i : ℕ) (so : value_of s ≡ value_from n (drop i s)) where
  pub value-end : length s ≤ i → n ≡ value_of s
  unfolding value_from
  value-end h = sym (so ∙ simp (drop_of_length-le s h))

  module _ (m : ℕ) (h : i < length s) (e : m ≡ with_byte n (get_or s i 0)) where
    pub value-next : value_of s ≡ value_from m (drop (i + 1) s)
    unfolding value_from
    value-next = so ∙ simp (drop-cons s i 0 h, e, add-one i)

    pub value_above : (top : ℕ) → top < m → top < value_of s
    value_above top g = omega (arith, value-next, value_grows (drop (i + 1) s) m)

module _ (top n : ℕ) where
  pub at_most : n ≤ top → Some n ≡ up_to top n
  unfolding up_to
  at_most h = simp (le-leb n top h)

  pub above : top < n → None ≡ up_to top n
  unfolding up_to
  above h = simp (lt-leb n top h)

  pub told : (k : ℕ) → up_to top n ≡ Some k → (k ≡ n) × (k ≤ top)
  unfolding up_to
  told k e = by (leb n top) refl e
    where
      by : (t : Bool) → leb n top ≡ t → cond t (Some n) None ≡ Some k → (k ≡ n) × (k ≤ top)
      by true p e = let q : n ≡ k = cc in (sym q, omega (arith, leb-true n top p))
      by false p e = let z : ◌≡◌ {A = ℕ} 0 1 = cc in (omega arith, omega arith)

  pub untold : up_to top n ≡ None → top < n
  unfolding up_to
  untold e = by (leb n top) refl e
    where
      by : (t : Bool) → leb n top ≡ t → cond t (Some n) None ≡ None → top < n
      by true p e = let z : ◌≡◌ {A = ℕ} 0 1 = cc in omega arith
      by false p e = leb-false n top p

module _ (top : ℕ) (s : List ℕ) where
  pub natural-small : (k : ℕ) → natural top s ≡ Some k → k ≤ top
  unfolding natural
  natural-small k e = by (is_natural s) e
    where
      by : (t : Bool) → cond t (up_to top (value_of s)) None ≡ Some k → k ≤ top
      by true e = (told top (value_of s) k e).1
      by false e = let z : ◌≡◌ {A = ℕ} 0 1 = cc in omega arith

module _ (s : List ℕ) where
  pub minus_within : minus_end s ≤ length s
  minus_within = by (has_minus s) refl
    where
      by : (t : Bool) → has_minus s ≡ t → cond t 1 0 ≤ length s
      by true e = omega (arith, inside s 0 (omega (arith, eqb-true (get_or s 0 0) 45 e)))
      by false e = omega arith

  module _ (m : ℕ) (em : m ≡ minus_end s) (t : Bool) (et : t ≡ has_minus s) (top : ℕ) (eo : top ≡ largest t) where
    -- the digits behind the minus, up to the sign's largest
    told-by : natural top (take (length s - m) (drop m s)) ≡ natural (largest (has_minus s)) (drop (minus_end s) s)
    told-by =
        ap (natural top) (take_all (length s - m) (drop m s) (omega (arith, length-drop m s)))
        ∙ simp (eo, et, em)

    pub signed_or_none : (x y : Option ℕ) → x ≡ natural top (take (length s - m) (drop m s)) → x ≡ y → with_sign t y ≡ integer s
    unfolding integer
    signed_or_none x y ex e = ap (with_sign t) (sym e ∙ ex ∙ told-by) ∙ simp et

module _ (s : List ℕ) where
  pub no_bytes : length s ≡ 0 → false ≡ is_natural s
  unfolding is_natural
  no_bytes h = simp (le-ltb 0 (length s) (omega arith))

  pub all_digits : 0 < length s → (e : ℕ) → e ≡ digits_end s 0 → eqb e (length s) ≡ is_natural s
  unfolding is_natural
  all_digits h e p = simp (lt-ltb 0 (length s) h, p)

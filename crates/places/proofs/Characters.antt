-- How the count of characters goes on by one byte. Assumes nothing.
use mathlib.Core.Path.{◌≡◌, refl, ap, sym, ◌∙◌}
use mathlib.Core.Bool.{Bool, true, false, cond, not}
use mathlib.Core.List.{List}
use Prim.Native.Nat.{ℕ, ◌+◌, ◌≤◌, ◌<◌}
use native.Mathlib.Numerals.{add-one}
use native.Mathlib.Omega.{arith}
use mir.Val.{bool_byte}
use lib.ListN.{length, drop, get_or, drop_of_length-le}
use lib.Seq.{drop-cons}
use Rattle.places.specs.Places.{is_tail, code_points, bytes_between, line_start, place_in, column_at}

-- a flag as a number
number : (u : Bool) → bool_byte u ≡ cond u 1 0
number true = refl
number false = refl

pub one_at_most : (u : Bool) → bool_byte u ≤ 1
one_at_most true = omega arith
one_at_most false = omega arith

module _ (s : List ℕ) (i n : ℕ) (so : code_points s ≡ n + code_points (drop i s)) where
  pub one_more : (r : ℕ) (t : Bool) → i < length s → r ≡ bool_byte (not t) → t ≡ is_tail (get_or s i 0)
      → code_points s ≡ n + r + code_points (drop (i + 1) s)
  unfolding code_points
  one_more r t h e f =
      let more : code_points (drop i s) ≡ cond (not (is_tail (get_or s i 0))) 1 0 + code_points (drop (i + 1) s) = rw (add-one i, drop-cons s i 0) in
      let same : r ≡ cond (not (is_tail (get_or s i 0))) 1 0 = e ∙ number (not t) ∙ ap (λ (u : Bool). cond (not u) 1 0) f in
      omega arith

  pub all : length s ≤ i → n ≡ code_points s
  unfolding code_points
  all h = sym (so ∙ simp (drop_of_length-le s h) (omega arith))

-- the characters from the start of the line on
pub column : (s : List ℕ) (at a e n : ℕ) → n ≡ code_points (bytes_between s a e) → a ≡ line_start s (place_in s at) → e ≡ place_in s at
    → n + 1 ≡ column_at s at
column s at a e n f g h = simp (f, g, h)

-- A short number's double is the one nearest to the number that was typed: IEEE 754's rounding of the exact fraction, done
-- once. It is what a correctly rounding parser, such as the Rust's, gives. Assumes nothing.
use mathlib.Core.Path.{◌≡◌, refl, sym, ap, ◌∙◌}
use mathlib.Core.Bool.{Bool, true, false, cond, false≢true}
use Prim.Native.Nat.{ℕ, ◌+◌, ◌-◌, ◌*◌, ◌^◌, ◌≤◌, ◌<◌}
use native.Mathlib.Nat.{mul_assoc, mul_comm, mul-one, one-le-pow, mul-pos}
use native.Mathlib.Omega.{arith}
use lib.Dec.{T, eqb, leb, ltb→lt}
use lib.IntN.{pos}
use lib.Pow.{pow-add}
use lib.Ieee.{Float, nan, inf, fin, binary64, of_int, mul, div, round, up, down}
use lib.Ieee.Exact.{HasValue}
use lib.Ieee.Back.{round_whole}
use lib.Ieee.Scale.{round_same}
use lib.Ieee.Positive.{positive, num, den, den_pos, value→cross, positive_of_value, mul_at}
use borrow.Author.Tests.{eqb-true, leb-true, leb-false, ne_eqb}
use Rattle.laws.proofs.Tabulate.{agree}
use Rattle.numbers.specs.Doubles.{ten, scaled}

-- ---- both operands are exact

whole : (n : ℕ) → n ≤ 9007199254740992 → HasValue (of_int binary64 (pos n)) false n 1
unfolding of_int
whole n h = round_whole binary64 false n h

is_exactly : Float → ℕ → Bool
is_exactly nan a = false
is_exactly (inf s) a = false
is_exactly (fin true m e) a = false
is_exactly (fin false m e) a = eqb (m * up e) (a * down e)

exactly : (x : Float) (a : ℕ) → is_exactly x a ≡ true → HasValue x false a 1
unfolding is_exactly
exactly nan a h = absurd (false≢true h)
exactly (inf s) a h = absurd (false≢true h)
exactly (fin true m e) a h = absurd (false≢true h)
exactly (fin false m e) a h = (refl, mul-one (m * up e) ∙ eqb-true (m * up e) (a * down e) h)

power : (p : ℕ) → p ≤ 22 → HasValue (ten p) false (10 ^ p) 1
unfolding is_exactly of_int round
power p h = exactly (ten p) (10 ^ p) (agree (λ p. is_exactly (ten p) (10 ^ p)) (λ p. true) 23 p refl (omega arith))

-- ---- one operation rounds the exact product or quotient

div_is : (x y : Float) → T (positive x) → T (positive y) → div binary64 x y ≡ round binary64 false (num x * den y) (num y * den x)
unfolding div
div_is nan y p q = absurd p
div_is (inf s) y p q = absurd p
div_is (fin true m e) y p q = absurd p
div_is (fin false m e) nan p q = absurd q
div_is (fin false m e) (inf t) p q = absurd q
div_is (fin false m e) (fin true n d) p q = absurd q
div_is (fin false m e) (fin false n d) p q = simp (ne_eqb n 0 (λ z. omega (arith, ltb→lt 0 n q)))

div_at : (x y : Float) (a b : ℕ) → 0 < a → 0 < b → HasValue x false a 1 → HasValue y false b 1 → div binary64 x y ≡ round binary64 false a b
div_at x y a b A B h k =
    div_is x y (positive_of_value x a 1 h A) (positive_of_value y b 1 k B)
    ∙ round_same binary64 false (num x * den y) (num y * den x) a b (mul-pos above (den_pos x)) B cross
  where
    ex : num x ≡ a * den x
    ex = sym (mul-one (num x)) ∙ value→cross x a 1 h

    ey : num y ≡ b * den y
    ey = sym (mul-one (num y)) ∙ value→cross y b 1 k

    above : 0 < num y
    above = rw ey (mul-pos B (den_pos y))

    cross : num x * den y * b ≡ a * (num y * den x)
    cross =
        ap (λ (z : ℕ). z * den y * b) ex
        ∙ mul_assoc (a * den x) (den y) b
        ∙ mul_assoc a (den x) (den y * b)
        ∙ ap (λ (z : ℕ). a * z) (ap (λ (z : ℕ). den x * z) (mul_comm (den y) b) ∙ mul_comm (den x) (b * den y) ∙ ap (λ (z : ℕ). z * den x) (sym ey))

ten_pos : (p : ℕ) → 0 < 10 ^ p
ten_pos p = one-le-pow p 10 (omega arith)

module _ (n u d : ℕ) (small : n ≤ 9007199254740992) (above : 0 < n) where
  times : d ≤ u → u ≤ d + 22 → mul binary64 (of_int binary64 (pos n)) (ten (u - d)) ≡ round binary64 false (n * 10 ^ u) (10 ^ d)
  times h g =
      let x = whole n small in
      let y = power (u - d) (omega arith) in
      mul_at binary64 (of_int binary64 (pos n)) (ten (u - d)) n 1 (10 ^ (u - d)) 1 (positive_of_value (of_int binary64 (pos n)) n 1 x above)
      (positive_of_value (ten (u - d)) (10 ^ (u - d)) 1 y (ten_pos (u - d))) (omega arith) (omega arith) x y
      ∙ round_same binary64 false (n * 10 ^ (u - d)) 1 (n * 10 ^ u) (10 ^ d) (omega arith) (ten_pos d)
      (mul_assoc n (10 ^ (u - d)) (10 ^ d)
      ∙ ap (λ (z : ℕ). n * z) (sym (pow-add 10 (u - d) d) ∙ ap (λ (k : ℕ). 10 ^ k) back)
      ∙ sym (mul-one (n * 10 ^ u)))
    where
      back : u - d + d ≡ u
      back = omega arith

  over : u < d → d ≤ u + 22 → div binary64 (of_int binary64 (pos n)) (ten (d - u)) ≡ round binary64 false (n * 10 ^ u) (10 ^ d)
  over h g =
      div_at (of_int binary64 (pos n)) (ten (d - u)) n (10 ^ (d - u)) above (ten_pos (d - u)) (whole n small) (power (d - u) (omega arith))
      ∙ round_same binary64 false n (10 ^ (d - u)) (n * 10 ^ u) (10 ^ d) (ten_pos (d - u)) (ten_pos d)
      (ap (λ (z : ℕ). n * z) (ap (λ (k : ℕ). 10 ^ k) back ∙ pow-add 10 u (d - u)) ∙ sym (mul_assoc n (10 ^ u) (10 ^ (d - u))))
    where
      back : d ≡ u + (d - u)
      back = omega arith

  -- n times ten to the u, over ten to the d, rounded
  pub nearest : u ≤ d + 22 → d ≤ u + 22 → scaled n u d ≡ round binary64 false (n * 10 ^ u) (10 ^ d)
  unfolding scaled
  nearest p q = by (leb d u) refl
    where
      by : (t : Bool) → leb d u ≡ t
          → cond t (mul binary64 (of_int binary64 (pos n)) (ten (u - d))) (div binary64 (of_int binary64 (pos n)) (ten (d - u)))
          ≡ round binary64 false (n * 10 ^ u) (10 ^ d)
      by true e = times (leb-true d u e) p
      by false e = over (leb-false d u e) q

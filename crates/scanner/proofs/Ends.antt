-- The parts of a number end within the text. Assumes nothing.
use mathlib.Core.Path.{◌≡◌, refl}
use mathlib.Core.Bool.{Bool, true, false, cond, ◌||◌, false≢true}
use mathlib.Core.List.{List}
use Prim.Native.Nat.{ℕ, ◌+◌, ◌≤◌, ◌<◌}
use native.Mathlib.Omega.{arith}
use lib.Dec.{eqb, ltb}
use lib.ListN.{length, get_or}
use borrow.Author.Tests.{eqb-true}
use Rattle.scanner.specs.Bytes.{is_digit}
use Rattle.scanner.specs.Ends.{digits_end, point_end, sign_end, power_end, exponent_end}
use Rattle.scanner.proofs.Runs.{run_fits, inside}

pub record Within (s : List ℕ) (i e : ℕ) : Type 0 where
  pub from : i ≤ e
  pub to : e ≤ length s

-- both cases of an optional part keep a bound
either : (P : ℕ → Type 0) (t : Bool) (x y : ℕ) → (t ≡ true → P x) → P y → P (cond t x y)
either P true x y f h = f refl
either P false x y f h = h

-- a byte that is one of two is not 0
some_byte : (b x y : ℕ) → 0 < x → 0 < y → (eqb b x || eqb b y) ≡ true → 0 < b
some_byte b x y hx hy e = by (eqb b x) (eqb b y) refl refl e
  where
    by : (t u : Bool) → eqb b x ≡ t → eqb b y ≡ u → (t || u) ≡ true → 0 < b
    by true u p q e = omega (arith, eqb-true b x p)
    by false true p q e = omega (arith, eqb-true b y q)
    by false false p q e = absurd (false≢true e)

module _ (s : List ℕ) where
  here : (i : ℕ) → i ≤ length s → Within s i i
  here i h = record { from = omega arith; to = h }

  wider : (i j e : ℕ) → i ≤ j → Within s j e → Within s i e
  wider i j e h w = record { from = omega arith; to = w.to }

  pub digits_within : (i : ℕ) → i ≤ length s → Within s i (digits_end s i)
  digits_within i h = record { from = omega arith; to = run_fits is_digit s i h }

  pub point_within : (i : ℕ) → i ≤ length s → Within s i (point_end s i)
  unfolding point_end
  point_within i h =
      either (Within s i) (eqb (get_or s i 0) 46) _ i
      (λ e.
      let p : i < length s = inside s i (omega (arith, eqb-true (get_or s i 0) 46 e)) in
      wider i (i + 1) _ (omega arith) (digits_within (i + 1) (omega arith)))
      (here i h)

  pub sign_within : (i : ℕ) → i ≤ length s → Within s i (sign_end s i)
  unfolding sign_end
  sign_within i h =
      either (Within s i) (eqb (get_or s i 0) 43 || eqb (get_or s i 0) 45) (i + 1) i
      (λ e.
      let p : i < length s = inside s i (some_byte (get_or s i 0) 43 45 (omega arith) (omega arith) e) in
      wider i (i + 1) _ (omega arith) (here (i + 1) (omega arith)))
      (here i h)

  power_within : (i : ℕ) → i ≤ length s → Within s i (power_end s i)
  unfolding power_end
  power_within i h = either (Within s i) (ltb (digits_end s i) (length s)) _ i (λ e. digits_within i h) (here i h)

  pub exponent-within : (i : ℕ) → i ≤ length s → Within s i (exponent_end s i)
  unfolding exponent_end
  exponent-within i h =
      either (Within s i) (eqb (get_or s i 0) 101 || eqb (get_or s i 0) 69) _ i
      (λ e.
      let p : i < length s = inside s i (some_byte (get_or s i 0) 101 69 (omega arith) (omega arith) e) in
      let g = sign_within (i + 1) (omega arith) in
      wider i (sign_end s (i + 1)) _ (omega (arith, g.from)) (power_within (sign_end s (i + 1)) g.to))
      (here i h)

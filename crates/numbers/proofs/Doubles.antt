-- Where the parts of a number end, and the double by what was tested. Assumes nothing.
use mathlib.Core.Path.{◌≡◌, refl, sym, ap, ◌∙◌}
use mathlib.Core.Bool.{Bool, true, false, cond, and-false, false≢true}
use mathlib.Core.List.{List}
use Prim.Native.Nat.{ℕ, zero, suc, ◌+◌, ◌-◌, ◌≤◌, ◌<◌}
use native.Mathlib.Nat.{zero-add}
use native.Mathlib.Omega.{arith}
use lib.IntN.{pos}
use lib.Ieee.{fin, neg, of_bits, binary64}
use lib.ListN.{length, take, drop, get_or, length-drop}
use lib.Seq.{take_all}
use borrow.Author.Tests.{eq-eqb, ne_eqb, le-leb, lt-leb}
use Rattle.std.specs.Prelude.{Option, Some, None}
use Rattle.scanner.specs.Ends.{sign_end}
use Rattle.scanner.proofs.Runs.{inside}
use Rattle.scanner.proofs.Ends.{Within, digits_within, point_within, sign_within}
use Rattle.numbers.specs.Integers.{is_minus, has_minus, minus_end, is_natural, value_of, up_to}
use Rattle.numbers.specs.Doubles.{whole_end, mantissa_end, fraction_digits, is_e, is_exponent, is_number, w, exponent, exponent_has_minus, up, down, scaled, signed, is_short, double_of, double}
use Rattle.numbers.specs.declared.Double.{Double}
use Rattle.numbers.specs.declared.Double.TheVariants as D
use Rattle.numbers.proofs.Integers.{minus_within, told, untold}

-- ---- the pattern

module _ (s : List ℕ) where
  pub whole-within : Within s (minus_end s) (whole_end s)
  unfolding whole_end
  whole-within = digits_within s (minus_end s) (minus_within s)

  pub mantissa_within : Within s (whole_end s) (mantissa_end s)
  unfolding mantissa_end
  mantissa_within = point_within s (whole_end s) whole-within.to

  pub fraction_fits : fraction_digits s ≤ length s
  unfolding fraction_digits
  fraction_fits = omega (arith, mantissa_within.to)

  module _ (i : ℕ) (t : Bool) (at : t ≡ is_e (get_or s i 0)) where
    pub no_exponent : t ≡ false → false ≡ is_exponent s i
    unfolding is_exponent
    no_exponent h = simp (← at, h)

    module _ (h : t ≡ true) where
      pub exponent-inside : i < length s
      exponent-inside = by (get_or s i 0) refl (sym at ∙ h)
        where
          by : (b : ℕ) → get_or s i 0 ≡ b → is_e b ≡ true → i < length s
          by zero p q = absurd (false≢true q)
          by (suc b) p q = inside s i (omega arith)

      pub sign_inside : sign_end s (i + 1) ≤ length s
      sign_inside = (sign_within s (i + 1) (omega (arith, exponent-inside))).to

      pub an_exponent : (m : ℕ) (r : Bool) → m ≡ sign_end s (i + 1) → r ≡ is_natural (take (length s - m) (drop m s))
          → r ≡ is_exponent s i
      unfolding is_exponent
      an_exponent m r em e =
          e ∙ ap is_natural (take_all (length s - m) (drop m s) (omega (arith, length-drop m s))) ∙ simp (← at, h, em)

-- ---- the double

-- 0 with its sign
pub signed_zero : (negative : Bool) → signed negative (of_bits binary64 0) ≡ fin negative 0 (pos 0)
unfolding neg of_bits
signed_zero true = refl
signed_zero false = refl

module _ (negative : Bool) (n u d : ℕ) where
  pub is_zero : n ≡ 0 → D.Is (fin negative 0 (pos 0)) ≡ double_of negative n u d
  unfolding double_of
  is_zero h = simp (eq-eqb n 0 h)

  pub up_far : d + 22 < u → is_short u d ≡ false
  up_far h = simp (lt-leb u (d + 22) h)

  pub down_far : u + 22 < d → is_short u d ≡ false
  down_far h = simp (lt-leb d (u + 22) h, and-false)

  module _ (h : n ≡ 0 → ⊥) where
    pub too_many : 9007199254740992 < n → D.Long ≡ double_of negative n u d
    unfolding double_of
    too_many g = simp (ne_eqb n 0 h, lt-leb n 9007199254740992 g)

    pub too_far : is_short u d ≡ false → D.Long ≡ double_of negative n u d
    unfolding double_of
    too_far g = simp (ne_eqb n 0 h, g, and-false)

    pub short : n ≤ 9007199254740992 → u ≤ d + 22 → d ≤ u + 22 → D.Is (signed negative (scaled n u d)) ≡ double_of negative n u d
    unfolding double_of
    short g p q = simp (ne_eqb n 0 h, le-leb n 9007199254740992 g, le-leb u (d + 22) p, le-leb d (u + 22) q)

module _ (s : List ℕ) where
  -- an exponent past 2^53 is far from any count of fraction digits
  pub far : length s ≤ 65536 → 9007199254740992 < exponent s → is_short (up s) (down s) ≡ false
  far h g = by (exponent_has_minus s)
    where
      by : (t : Bool) → is_short (cond t 0 (exponent s)) (cond t (exponent s) 0 + fraction_digits s) ≡ false
      by true = down_far true 0 0 (exponent s + fraction_digits s) (omega arith)
      by false = up_far true 0 (exponent s) (0 + fraction_digits s) (omega (arith, fraction_fits s))

  module _ (e : ℕ) (ee : e ≡ mantissa_end s) (t : Bool) (et : t ≡ is_minus (get_or s (e + 1) 0)) where
    has_minus_lem : exponent_has_minus s ≡ t
    has_minus_lem = sym (et ∙ ap (λ (m : ℕ). is_minus (get_or s (m + 1) 0)) ee)

    module _ (n x f : ℕ) (ex : x ≡ exponent s) (ef : f ≡ fraction_digits s) where
      pub with_minus : t ≡ true → double_of (has_minus s) n 0 (x + f) ≡ double_of (has_minus s) n (up s) (down s)
      with_minus h = simp (has_minus_lem, h, ex, ef)

      pub without_minus : t ≡ false → double_of (has_minus s) n x f ≡ double_of (has_minus s) n (up s) (down s)
      without_minus h = simp (has_minus_lem, h, ex, ef, zero-add)

  pub off_pattern : is_number s ≡ false → None ≡ double s
  unfolding double
  off_pattern h = simp h

  module _ (h : is_number s ≡ true) where
    pub known : (n : ℕ) → n ≡ w s → (r : Double) → r ≡ double_of (has_minus s) n (up s) (down s) → Some r ≡ double s
    unfolding double
    known n e r q = ap Some (q ∙ ap (λ (k : ℕ). double_of (has_minus s) k (up s) (down s)) e) ∙ simp h

    pub long : 9007199254740992 < w s → Some D.Long ≡ double s
    long g = known (w s) refl D.Long (too_many (has_minus s) (w s) (up s) (down s) (λ e. omega arith) g)

  -- what the digits, and those of the exponent, were found to write
  module _ (e : ℕ) (ee : e ≡ mantissa_end s) (r : Option ℕ) where
    module _ (er : r ≡ up_to 9007199254740992 (value_of (take e s))) where
      so : up_to 9007199254740992 (w s) ≡ r
      so = sym (er ∙ ap (λ (m : ℕ). up_to 9007199254740992 (value_of (take m s))) ee)

      pub digits_told : (n : ℕ) → r ≡ Some n → (n ≡ w s) × (n ≤ 9007199254740992)
      digits_told n h = told 9007199254740992 (w s) n (so ∙ h)

      pub digits_many : r ≡ None → 9007199254740992 < w s
      digits_many h = untold 9007199254740992 (w s) (so ∙ h)

    module _ (er : r ≡ up_to 9007199254740992 (value_of (take (length s - e) (drop e s)))) where
      so_far : up_to 9007199254740992 (exponent s) ≡ r
      so_far =
          sym
          (er
          ∙ ap (λ (l : List ℕ). up_to 9007199254740992 (value_of l)) (take_all (length s - e) (drop e s) (omega (arith, length-drop e s)))
          ∙ ap (λ (m : ℕ). up_to 9007199254740992 (value_of (drop m s))) ee)

      pub exponent-told : (x : ℕ) → r ≡ Some x → (x ≡ exponent s) × (x ≤ 9007199254740992)
      exponent-told x h = told 9007199254740992 (exponent s) x (so_far ∙ h)

      pub exponent_many : r ≡ None → 9007199254740992 < exponent s
      exponent_many h = untold 9007199254740992 (exponent s) (so_far ∙ h)

-- Number texts and what they are worth: claims of the definitions alone, by computation. Assumes nothing.
use mathlib.Core.Path.{◌≡◌, refl}
use mathlib.Core.List.{List, [], ◌∷◌, map}
use mathlib.Core.Option.{Option, none, some}
use Prim.Native.Nat.{ℕ, suc}
use Prim.Native.String.{String}
use lib.Count.{count_trailing_zeros}
use lib.IntN.{pos, neg_ℤ}
use lib.Ieee.{binary64, to_bits, mul, div, neg, of_int, round, size, units, odd, span, climb}
use Rattle.std.specs.Prelude.{Some, None}
use Rattle.std.specs.Prelude as Std
use Rattle.scanner.specs.Bytes.{run_of}
use Rattle.scanner.specs.Ends.{point_end, sign_end}
use Rattle.words.specs.Spellings.{bytes}
use Rattle.numbers.specs.Integers.{with_byte, value_from, up_to, is_natural, natural, integer}
use Rattle.numbers.specs.Doubles.{whole_end, mantissa_end, fraction_digits, has_digit, is_exponent, is_number, scaled, double_of, double}
use Rattle.numbers.specs.declared.Double.{Double}
use Rattle.numbers.specs.declared.Double.TheVariants as D

-- one more than a double's bits; 0 of Long; none where the text has no value
abbrev bits : Std.Option Double → Option ℕ
bits (Some (D.Is x)) = some (suc (to_bits binary64 x))
bits (Some D.Long) = some 0
bits None = none

pub record Case : Type 0 where
  pub text : String
  pub worth : Option ℕ

infix 70 ◌has◌ ◌isLong ◌hasNone
abbrev ◌has◌ : String → ℕ → Case
s has b = record { text = s; worth = some (suc b) }

abbrev ◌isLong : String → Case
s isLong = record { text = s; worth = some 0 }

abbrev ◌hasNone : String → Case
s hasNone = record { text = s; worth = none }

-- the bits are IEEE 754's for the nearest double
abbrev doubles : List Case
doubles =
    "0.1" has 4591870180066957722
    ∷ "1e5" has 4681608360884174848
    ∷ "1." has 4607182418800017408
    ∷ "-.5" has 13826050856027422720
    ∷ "1.e5" has 4681608360884174848
    ∷ "3.14" has 4614253070214989087
    ∷ "-0.0" has 9223372036854775808
    ∷ "0e999" has 0
    ∷ "-0e5" has 9223372036854775808
    ∷ "2147483648" has 4746794007248502784
    ∷ "-2147483649" has 13970166044105375744
    ∷ "9007199254740992" has 4845873199050653696
    ∷ "9007199254740991e22" has 5174900743803360657
    ∷ "1e22" has 4936209963552724370
    ∷ "1e-22" has 4277919505920253670
    ∷ "123456789012345e-10" has 4668012723080811442
    ∷ "00012.50" has 4623226492472524800
    ∷ "5E-1" has 4602678819172646912
    ∷ "1e+2" has 4636737291354636288
    ∷ "9007199254740993" isLong
    ∷ "1e23" isLong
    ∷ "1e-23" isLong
    ∷ "0.00000000000000000000001" isLong
    ∷ "12345678901234567890" isLong
    ∷ "" hasNone
    ∷ "-" hasNone
    ∷ "." hasNone
    ∷ "-." hasNone
    ∷ "1e" hasNone
    ∷ "1e+" hasNone
    ∷ "1e-" hasNone
    ∷ "+5" hasNone
    ∷ "1.5.2" hasNone
    ∷ "e5" hasNone
    ∷ "--1" hasNone
    ∷ "1 " hasNone
    ∷ "0x10" hasNone
    ∷ "inf" hasNone
    ∷ "1e5x" hasNone
    ∷ []

bench : map (λ (c : Case). bits (double (bytes c.text))) doubles ≡ map (λ (c : Case). c.worth) doubles
unfolding bytes with_byte value_from is_natural whole_end mantissa_end fraction_digits has_digit is_exponent is_number scaled double_of double run_of point_end sign_end mul div neg of_int round size units odd span climb count_trailing_zeros to_bits
bench = refl

integers :
    map (λ (s : String). integer (bytes s)) ("2147483647" ∷ "2147483648" ∷ "-2147483648" ∷ "-2147483649" ∷ "-0" ∷ "00012" ∷ "-" ∷ "+5" ∷ "1.0" ∷ "" ∷ [])
    ≡ Some (pos 2147483647) ∷ None ∷ Some (neg_ℤ (pos 2147483648)) ∷ None ∷ Some (pos 0) ∷ Some (pos 12) ∷ None ∷ None ∷ None ∷ None ∷ []
unfolding bytes with_byte value_from is_natural natural up_to integer run_of
integers = refl

u8s :
    map (λ (s : String). natural 255 (bytes s)) ("255" ∷ "256" ∷ "-0" ∷ "000255" ∷ "" ∷ "1e1" ∷ [])
    ≡ Some 255 ∷ None ∷ None ∷ Some 255 ∷ None ∷ None ∷ []
unfolding bytes with_byte value_from is_natural natural up_to run_of
u8s = refl

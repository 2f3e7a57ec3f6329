-- The number pattern and the double that it stands for: document 01, 'Tokens' and 'Values and deltas'.
use Rattle.std.specs.Prelude.{Bool, true, false, cond, ◌&&◌, ◌||◌, List, ℕ, ◌+◌, ◌-◌, ◌^◌, eqb, leb, ltb, pos, Float, length, take, drop, get_or, Option, Some, None}
use Rattle.std.specs.Float.{fin, binary64}
use Rattle.std.specs.Float.Ieee.{of_int, mul, div, neg}
use Rattle.scanner.specs.Ends.{digits_end, point_end, sign_end}
use Rattle.numbers.specs.Integers.{is_minus, has_minus, minus_end, is_natural, value_of}
use Rattle.numbers.specs.declared.Double.{Double}
use Rattle.numbers.specs.declared.Double.TheVariants as D

-- ---- the pattern: optional `-`, digits, optional `.` with digits, optional `e` or `E` with optional sign and digits

-- where the digits before the point end
unfoldable pub whole_end : List ℕ → ℕ
whole_end s = digits_end s (minus_end s)

-- where those behind it end, and an exponent may start
unfoldable pub mantissa_end : List ℕ → ℕ
mantissa_end s = point_end s (whole_end s)

-- how many digits stand behind the point; 0 where there is none, since a difference is not below 0
unfoldable pub fraction_digits : List ℕ → ℕ
fraction_digits s = mantissa_end s - (whole_end s + 1)

-- a number needs a digit before the exponent
unfoldable pub has_digit : List ℕ → Bool
has_digit s = ltb (minus_end s) (whole_end s) || ltb 0 (fraction_digits s)

abbrev pub is_e : ℕ → Bool
is_e b = eqb b 101 || eqb b 69

-- whether the rest from i on is an exponent; one that is started needs a digit
unfoldable pub is_exponent : List ℕ → ℕ → Bool
is_exponent s i = is_e (get_or s i 0) && is_natural (drop (sign_end s (i + 1)) s)

unfoldable pub is_number : List ℕ → Bool
is_number s = has_digit s && (eqb (mantissa_end s) (length s) || is_exponent s (mantissa_end s))

-- ---- the double

-- its digits without point and exponent: document 01's w
abbrev pub w : List ℕ → ℕ
w s = value_of (take (mantissa_end s) s)

abbrev pub exponent : List ℕ → ℕ
exponent s = value_of (drop (mantissa_end s) s)

abbrev pub exponent_has_minus : List ℕ → Bool
exponent_has_minus s = is_minus (get_or s (mantissa_end s + 1) 0)

-- the exponent less the fraction digits, document 01's p, is `up` less `down`
abbrev pub up : List ℕ → ℕ
up s = cond (exponent_has_minus s) 0 (exponent s)

abbrev pub down : List ℕ → ℕ
down s = cond (exponent_has_minus s) (exponent s) 0 + fraction_digits s

abbrev pub ten : ℕ → Float
ten p = of_int binary64 (pos (10 ^ p))

-- w as a double after one multiplication or one division by a power of ten
unfoldable pub scaled : ℕ → ℕ → ℕ → Float
scaled n u d =
    cond (leb d u) (mul binary64 (of_int binary64 (pos n)) (ten (u - d))) (div binary64 (of_int binary64 (pos n)) (ten (d - u)))

abbrev pub signed : Bool → Float → Float
signed true x = neg x
signed false x = x

-- p lies from -22 to 22
abbrev pub is_short : ℕ → ℕ → Bool
is_short u d = leb u (d + 22) && leb d (u + 22)

-- of a number with that sign, w and p: zero with its sign; the double; else Long
unfoldable pub double_of : Bool → ℕ → ℕ → ℕ → Double
double_of negative n u d =
    cond (eqb n 0) (D.Is (fin negative 0 (pos 0)))
    (cond (leb n 9007199254740992 && is_short u d) (D.Is (signed negative (scaled n u d))) D.Long)

-- raw text off the pattern has no value
unfoldable pub double : List ℕ → Option Double
double s = cond (is_number s) (Some (double_of (has_minus s) (w s) (up s) (down s))) None

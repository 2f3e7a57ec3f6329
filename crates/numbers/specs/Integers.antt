-- Whole numbers as Rust parses them: u8, u16 and i32, within document 01's number pattern, which has no plus.
use Rattle.std.specs.Prelude.{Bool, true, false, cond, ◌&&◌, List, [], ◌∷◌, ℕ, ◌+◌, ◌*◌, ◌-◌, eqb, leb, ltb, ℤ, pos, neg_ℤ, length, drop, get_or, Option, Some, None}
use Rattle.scanner.specs.Bytes.{is_digit}
use Rattle.scanner.specs.Ends.{digits_end}

-- a digit put behind the number n; any other byte changes nothing
unfoldable pub with_byte : ℕ → ℕ → ℕ
with_byte n b = cond (is_digit b) (n * 10 + (b - 48)) n

unfoldable pub value_from : ℕ → List ℕ → ℕ
value_from n [] = n
value_from n (b ∷ s) = value_from (with_byte n b) s

-- the number that the digits among some bytes write
abbrev pub value_of : List ℕ → ℕ
value_of s = value_from 0 s

unfoldable pub up_to : ℕ → ℕ → Option ℕ
up_to top n = cond (leb n top) (Some n) None

-- one or more digits and nothing else; leading zeros allowed
unfoldable pub is_natural : List ℕ → Bool
is_natural s = ltb 0 (length s) && eqb (digits_end s 0) (length s)

-- a number without a sign, up to the width's largest: 255 for a u8, 65,535 for a u16
unfoldable pub natural : ℕ → List ℕ → Option ℕ
natural top s = cond (is_natural s) (up_to top (value_of s)) None

abbrev pub is_minus : ℕ → Bool
is_minus b = eqb b 45

abbrev pub has_minus : List ℕ → Bool
has_minus s = is_minus (get_or s 0 0)

-- where the digits behind an optional `-` start
abbrev pub minus_end : List ℕ → ℕ
minus_end s = cond (has_minus s) 1 0

-- the largest size of an i32, with a minus and without
abbrev pub largest : Bool → ℕ
largest true = 2147483648
largest false = 2147483647

abbrev pub signed_number : Bool → ℕ → ℤ
signed_number true n = neg_ℤ (pos n)
signed_number false n = pos n

abbrev pub with_sign : Bool → Option ℕ → Option ℤ
with_sign negative (Some n) = Some (signed_number negative n)
with_sign negative None = None

-- an i32
unfoldable pub integer : List ℕ → Option ℤ
integer s = with_sign (has_minus s) (natural (largest (has_minus s)) (drop (minus_end s) s))

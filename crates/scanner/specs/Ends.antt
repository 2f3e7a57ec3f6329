-- Where a word, a number and a string end: document 01, 'Tokens'. A byte past the end of the text counts as 0.
use Rattle.std.specs.Prelude.{◌≡◌, ◌<◌, Bool, false, cond, not, ◌&&◌, ◌||◌, List, [], ◌∷◌, ℕ, suc, ◌+◌, eqb, ltb, length, drop, get_or}
use Rattle.scanner.specs.Bytes.{is_digit, is_word_byte, run_of}

-- where a run of bytes from i on ends
abbrev pub run_end : (ℕ → Bool) → List ℕ → ℕ → ℕ
run_end p s i = i + run_of p (drop i s)

-- calls that answer, of each byte, what the test p says
abbrev pub Computes : (ℕ → Bool → Type 0) → (ℕ → Bool) → Type 0
Computes post p = (b : ℕ) (r : Bool) → b < 256 → post b r → r ≡ p b

-- ---- a word

abbrev pub word_end : List ℕ → ℕ → ℕ
word_end s i = run_end is_word_byte s i

-- ---- a number

abbrev pub digits_end : List ℕ → ℕ → ℕ
digits_end s i = run_end is_digit s i

-- an optional `.` with digits
unfoldable pub point_end : List ℕ → ℕ → ℕ
point_end s i = cond (eqb (get_or s i 0) 46) (digits_end s (i + 1)) i

-- an optional `+` or `-`
unfoldable pub sign_end : List ℕ → ℕ → ℕ
sign_end s i = cond (eqb (get_or s i 0) 43 || eqb (get_or s i 0) 45) (i + 1) i

-- digits of an exponent; those that run to the end of the text are not taken
unfoldable pub power_end : List ℕ → ℕ → ℕ
power_end s i = cond (ltb (digits_end s i) (length s)) (digits_end s i) i

-- an optional `e` or `E` with optional sign and digits
unfoldable pub exponent_end : List ℕ → ℕ → ℕ
exponent_end s i = cond (eqb (get_or s i 0) 101 || eqb (get_or s i 0) 69) (power_end s (sign_end s (i + 1))) i

-- ---- a string

-- whether a string stops at a byte: at a line feed, and at a quote that is not protected
abbrev pub stops : Bool → ℕ → Bool
stops protected b = eqb b 10 || (not protected && eqb b 34)

-- whether a byte protects the next one: a backslash that is not protected itself
abbrev pub protects_next : Bool → ℕ → Bool
protects_next protected b = not protected && eqb b 92

-- how many bytes come before the stop: the closing quote, a line feed or the end
unfoldable pub until_stop : Bool → List ℕ → ℕ
until_stop protected [] = 0
until_stop protected (b ∷ s) = cond (stops protected b) 0 (suc (until_stop (protects_next protected b) s))

-- where a string whose text starts at i stops
abbrev pub string_stop : List ℕ → ℕ → ℕ
string_stop s i = i + until_stop false (drop i s)

-- Tests on bytes, and runs of bytes that pass one.
use Rattle.std.specs.Prelude.{Bool, cond, ◌&&◌, ◌||◌, List, [], ◌∷◌, ℕ, suc, eqb, leb}

abbrev pub between : ℕ → ℕ → ℕ → Bool
between a e b = leb a b && leb b e

-- 0 to 9
abbrev pub is_digit : ℕ → Bool
is_digit b = between 48 57 b

-- a letter, a digit, `_` or `$`
unfoldable pub is_word_byte : ℕ → Bool
is_word_byte b = between 97 122 b || (between 65 90 b || (is_digit b || (eqb b 95 || eqb b 36)))

-- how many of the first bytes pass a test
unfoldable pub run_of : (ℕ → Bool) → List ℕ → ℕ
run_of p [] = 0
run_of p (b ∷ s) = cond (p b) (suc (run_of p s)) 0

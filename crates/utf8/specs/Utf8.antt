-- UTF-8 as Rust's `str` requires it: the well-formed byte sequences of the Unicode standard, table 3-7.
use Rattle.std.specs.Prelude.{Bool, true, false, cond, ◌&&◌, List, [], ◌∷◌, ℕ, zero, suc, leb, length}

pub record Range : Type 0 where
  pub low : ℕ
  pub high : ℕ

infix 70 ◌to◌
abbrev pub ◌to◌ : ℕ → ℕ → Range
a to e = record { low = a; high = e }

abbrev pub tail : Range
tail = 128 to 191

-- the range of each byte of a character
abbrev pub rows : List (List Range)
rows =
    (0 to 127 ∷ [])
    ∷ (194 to 223 ∷ tail ∷ [])
    ∷ (224 to 224 ∷ 160 to 191 ∷ tail ∷ [])
    ∷ (225 to 236 ∷ tail ∷ tail ∷ [])
    ∷ (237 to 237 ∷ 128 to 159 ∷ tail ∷ [])
    ∷ (238 to 239 ∷ tail ∷ tail ∷ [])
    ∷ (240 to 240 ∷ 144 to 191 ∷ tail ∷ tail ∷ [])
    ∷ (241 to 243 ∷ tail ∷ tail ∷ tail ∷ [])
    ∷ (244 to 244 ∷ 128 to 143 ∷ tail ∷ tail ∷ [])
    ∷ []

abbrev pub holds : Range → ℕ → Bool
holds r b = leb r.low b && leb b r.high

-- whether a text starts with bytes in these ranges
unfoldable pub starts : List Range → List ℕ → Bool
starts [] s = true
starts (r ∷ rs) [] = false
starts (r ∷ rs) (b ∷ s) = holds r b && starts rs s

-- the bytes of the character that a text starts with, by the first row that fits; 0 if none does
unfoldable pub char_in : List (List Range) → List ℕ → ℕ
char_in [] s = 0
char_in (r ∷ rs) s = cond (starts r s) (length r) (char_in rs s)

abbrev pub char_len : List ℕ → ℕ
char_len s = char_in rows s

-- a character of n bytes and what follows it; at a character of none the text stops being valid
abbrev pub more : ℕ → (ℕ → ℕ) → ℕ
more zero rest = 0
more (suc n) rest = suc (rest n)

-- the count of leading valid bytes, where the first k bytes end a character already begun
unfoldable pub valid_from : List ℕ → ℕ → ℕ
valid_from [] k = 0
valid_from (b ∷ s) zero = more (char_len (b ∷ s)) (λ n. valid_from s n)
valid_from (b ∷ s) (suc k) = suc (valid_from s k)

abbrev pub valid_up_to : List ℕ → ℕ
valid_up_to s = valid_from s 0

-- The line and the column of a byte in a text, both from 1. Lines end as document 01's newlines do: by a line feed, a carriage
-- return, or a carriage return with its line feed as one. Columns count characters.
use Rattle.std.specs.Prelude.{Bool, cond, not, ◌&&◌, ◌||◌, List, [], ◌∷◌, ℕ, zero, suc, ◌+◌, ◌-◌, eqb, ltb, leb, length, take, drop, get_or}

-- whether a line end is complete with byte i: a line feed, or a carriage return that no line feed follows
unfoldable pub ends_at : List ℕ → ℕ → Bool
ends_at s i = eqb (get_or s i 0) 10 || (eqb (get_or s i 0) 13 && not (eqb (get_or s (i + 1) 0) 10))

-- how many line ends the first n bytes complete
unfoldable pub line_ends : List ℕ → ℕ → ℕ
line_ends s zero = 0
line_ends s (suc n) = line_ends s n + cond (ends_at s n) 1 0

-- where the line of byte n starts: after the last line end before it, or at byte 0
unfoldable pub line_start : List ℕ → ℕ → ℕ
line_start s zero = 0
line_start s (suc n) = cond (ends_at s n) (suc n) (line_start s n)

-- a later byte of a character, in UTF-8
abbrev pub is_tail : ℕ → Bool
is_tail b = leb 128 b && leb b 191

-- the characters of a text: its bytes that start one
unfoldable pub code_points : List ℕ → ℕ
code_points [] = 0
code_points (b ∷ s) = cond (not (is_tail b)) 1 0 + code_points s

-- a place past the end is taken as the end
unfoldable pub place_in : List ℕ → ℕ → ℕ
place_in s at = cond (ltb (length s) at) (length s) at

-- the bytes of a text from a up to e
abbrev pub bytes_between : List ℕ → ℕ → ℕ → List ℕ
bytes_between s a e = take (e - a) (drop a s)

-- the line ends before a byte, and one
abbrev pub line_at : List ℕ → ℕ → ℕ
line_at s at = line_ends s (place_in s at) + 1

-- the characters since the start of its line, and one
abbrev pub column_at : List ℕ → ℕ → ℕ
column_at s at = code_points (bytes_between s (line_start s (place_in s at)) (place_in s at)) + 1

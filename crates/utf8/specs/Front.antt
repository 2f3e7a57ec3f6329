-- What the quick walk over plain characters ensures. The contract of `valid_up_to` does not cite it.
use Rattle.std.specs.Prelude.{◌≡◌, Bool, ◌&&◌, List, ℕ, ◌+◌, ◌≤◌, ltb, length, drop, get_or}
use Rattle.utf8.specs.Utf8.{valid_up_to}

-- the four bytes from an index on are characters of one byte
abbrev pub four_ascii : List ℕ → ℕ → Bool
four_ascii s i = ltb (get_or s i 0) 128 && (ltb (get_or s (i + 1) 0) 128 && (ltb (get_or s (i + 2) 0) 128 && ltb (get_or s (i + 3) 0) 128))

-- the first n bytes are valid, and what stands behind them decides
pub record ValidFront (s : List ℕ) (n : ℕ) : Type 0 where
  pub inside : n ≤ length s
  pub counts : valid_up_to s ≡ n + valid_up_to (drop n s)

-- What document 01 says of every text's tokens: spans are not empty, ascend, do not meet inside, and only spaces and tabs
-- stand outside them.
use Rattle.std.specs.Prelude.{◌≡◌, ◌⊎◌, List, [], ◌∷◌, ℕ, ◌≤◌, ◌<◌, length, get_or}
use Rattle.tokens.specs.declared.Token.{Token}

-- each byte from a up to e is a space or a tab
abbrev pub Blanks : List ℕ → ℕ → ℕ → Type 0
Blanks s a e = (j : ℕ) → a ≤ j → j < e → (get_or s j 0 ≡ 32) ⊎ (get_or s j 0 ≡ 9)

-- a token that starts at byte i or later, after blanks
pub record Spanned (s : List ℕ) (i : ℕ) (t : Token) : Type 0 where
  pub after : i ≤ t.span.start
  pub some : t.span.start < t.span.end
  pub inside : t.span.end ≤ length s
  pub outside : Blanks s i t.span.start

-- tokens from byte i on: each starts where the one before ends or later, and blanks follow the last
abbrev pub Spans : List ℕ → ℕ → List Token → Type 0
Spans s i [] = Blanks s i (length s)
Spans s i (t ∷ ts) = Spanned s i t × Spans s t.span.end ts

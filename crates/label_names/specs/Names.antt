-- The name of a label.
use Rattle.std.specs.Prelude.{Bool, ◌&&◌, List, ℕ, eqb, get_or}
use Rattle.tokens.specs.Tokens.{token_of, raw_text}
use Rattle.entries.specs.Entries.{label_of}
use Rattle.lexemes.specs.Lexemes.{same_name}

-- the raw text of the token that a label's word names
abbrev pub name_of : List ℕ → List ℕ → ℕ → List ℕ
name_of text s w = raw_text text (token_of (get_or s (label_of w).token 0))

-- whether the label v is of that level and name
abbrev pub is_named : List ℕ → List ℕ → ℕ → List ℕ → ℕ → Bool
is_named text s level name v = eqb level (label_of v).level && same_name name (name_of text s v)

-- Labels looked up in a slice of label entries. Names compare byte for byte.
use Rattle.std.specs.Prelude.{Bool, ◌&&◌, List, ℕ, eqb, get_or}
use Rattle.tokens.specs.Tokens.{token_of, raw_text}
use Rattle.entries.specs.declared.Label.{Label}
use Rattle.entries.specs.Entries.{label_of}
use Rattle.lexemes.specs.Lexemes.{same_name}

-- what stands past the end of a slice
abbrev pub no_label : Label
no_label = label_of 0

-- a label's name: the raw text of its token
abbrev pub name_of : List ℕ → List ℕ → Label → List ℕ
name_of text tokens l = raw_text text (token_of (get_or tokens l.token 0))

-- whether a label is of that level and has that name
unfoldable pub is_named : List ℕ → List ℕ → ℕ → List ℕ → Label → Bool
is_named text tokens level name l = eqb l.level level && same_name (name_of text tokens l) name

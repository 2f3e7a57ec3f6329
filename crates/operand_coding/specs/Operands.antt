-- What a token of a text means.
use Rattle.std.specs.Prelude.{◌≡◌, true, List, ℕ, ◌≤◌, length}
use Rattle.tokens.specs.declared.Token.{Token}
use Rattle.tokens.specs.Tokens.{raw_text, is_within}
use Rattle.lexemes.specs.Lexemes.{lexeme}
use Rattle.movies.specs.Movie.{Value}
use Rattle.movies.specs.Meaning.{meaning}

abbrev pub meaning_in : List ℕ → Token → Value
meaning_in text t = meaning (lexeme 0 t.kind (raw_text text t))

-- a text of no more bytes than document 01 allows, and the token's raw text inside it
pub record Held (text : List ℕ) (t : Token) : Type 0 where
  pub bytes : length text ≤ 65536
  pub within : is_within (length text) t.raw ≡ true

-- The tokens of a list, as the grammar sees them.
use Rattle.std.specs.Prelude.{Bool, true, false, cond, ◌&&◌, List, [], ◌∷◌, ℕ, suc, eqb}
use Rattle.tokens.specs.declared.TokenKind.{TokenKind}
use Rattle.tokens.specs.declared.Token.{Token}
use Rattle.tokens.specs.Kinds.{is_kind, is_unclosed}
use Rattle.tokens.specs.Tokens.{raw_text}

-- a token as the grammar sees it: its place in the list, its kind, its raw text
pub data Lexeme : Type 0 where
  lexeme : ℕ → TokenKind → List ℕ → Lexeme

abbrev pub place_of : Lexeme → ℕ
place_of (lexeme i k w) = i

abbrev pub raw : Lexeme → List ℕ
raw (lexeme i k w) = w

-- a string that lacks its closing quote
abbrev pub unclosed : Lexeme → Bool
unclosed (lexeme i k w) = is_unclosed k

-- names compare byte for byte
abbrev pub same_name : List ℕ → List ℕ → Bool
same_name [] [] = true
same_name [] (b ∷ v) = false
same_name (a ∷ w) [] = false
same_name (a ∷ w) (b ∷ v) = eqb a b && same_name w v

-- the tokens of a text, numbered from i on
abbrev pub numbered : ℕ → List ℕ → List Token → List Lexeme
numbered i text [] = []
numbered i text (t ∷ ts) = lexeme i t.kind (raw_text text t) ∷ numbered (suc i) text ts

abbrev pub is_of : TokenKind → Lexeme → Bool
is_of k (lexeme i l w) = is_kind l k

-- how many tokens of a kind a list has
abbrev pub count_of : TokenKind → List Lexeme → ℕ
count_of k [] = 0
count_of k (t ∷ ts) = cond (is_of k t) (suc (count_of k ts)) (count_of k ts)

-- The tokens that a table's words stand for, as the grammar sees them, and tests of the one at a place.
use Rattle.std.specs.Prelude.{◌≡◌, Bool, true, false, cond, List, [], ◌∷◌, ℕ, suc, ◌≤◌, ◌<◌, ltb, pos, negsuc, length, get_or, ℤ, Option, Some, None, is_some}
use Rattle.tokens.specs.Kinds.{code_of}
use Rattle.tokens.specs.Tokens.{token_of, raw_text, is_within}
use Rattle.values.specs.Values.{i32_of}
use Rattle.lexemes.specs.Lexemes.{Lexeme, lexeme}
use Rattle.lexemes.specs.Operands.{string, value, bool, u8, u16, identifier, target, is_operand}
use Rattle.lexemes.specs.Operands as G
use Rattle.classes.specs.declared.Class.{Class}
use Rattle.classes.specs.declared.Class.TheVariants as C

-- the token of a word at place i
abbrev pub lexeme_of : List ℕ → ℕ → ℕ → Lexeme
lexeme_of text i w = lexeme i (token_of w).kind (raw_text text (token_of w))

abbrev pub lexemes_from : ℕ → List ℕ → List ℕ → List Lexeme
lexemes_from i text [] = []
lexemes_from i text (w ∷ s) = lexeme_of text i w ∷ lexemes_from (suc i) text s

unfoldable pub lexemes : List ℕ → List ℕ → List Lexeme
lexemes text s = lexemes_from 0 text s

-- no more tokens and bytes than document 01 allows, and every raw text inside the text
pub record Sound (text s : List ℕ) : Type 0 where
  pub bytes : length text ≤ 65536
  pub short : length s ≤ 65536
  pub within : (i : ℕ) → i < length s → is_within (length text) (token_of (get_or s i 0)).raw ≡ true

-- the place of the kind of the token at a place; 99 at the end
unfoldable pub kind_at : List ℕ → ℕ → ℕ
kind_at s at = cond (ltb at (length s)) (code_of (token_of (get_or s at 0)).kind).place 99

abbrev pub class_of : Class → G.Class
class_of C.String = string
class_of C.Value = value
class_of C.Bool = bool
class_of C.U8 = u8
class_of C.U16 = u16
class_of C.Identifier = identifier
class_of C.Target = target

-- whether the token at a place is such an operand
unfoldable pub class_at : Class → List ℕ → List ℕ → ℕ → Bool
class_at m text s at = is_operand (class_of m) (lexeme_of text at (get_or s at 0))

unfoldable pub fits_at : Class → List ℕ → List ℕ → ℕ → Bool
fits_at m text s at = cond (ltb at (length s)) (class_at m text s at) false

-- the number that a count acts as: of a negative one, and where there is none, 0
abbrev pub acting_as : Option ℤ → ℕ
acting_as (Some (pos m)) = m
acting_as (Some (negsuc m)) = 0
acting_as None = 0

unfoldable pub count_at : List ℕ → List ℕ → ℕ → ℕ
count_at text s at = cond (ltb at (length s)) (acting_as (i32_of text (token_of (get_or s at 0)))) 0

-- whether the token at a place is a count
unfoldable pub is_count_at : List ℕ → List ℕ → ℕ → Bool
is_count_at text s at = cond (ltb at (length s)) (is_some (i32_of text (token_of (get_or s at 0)))) false

-- The token that a text starts with: document 01, 'Tokens', bullet by bullet.
use Rattle.std.specs.Prelude.{true, false, cond, ◌||◌, List, ℕ, ◌+◌, ◌-◌, eqb, ltb, length, take, get_or}
use Rattle.tokens.specs.declared.TokenKind.TheVariants as K
use Rattle.scanner.specs.Bytes.{between, is_digit}
use Rattle.scanner.specs.Ends.{digits_end, exponent_end, point_end, string_stop, word_end}
use Rattle.keywords.specs.Keywords.{word_kind}
use Rattle.first_token.specs.declared.Found.{Found}
use Rattle.first_token.specs.declared.Found.TheVariants as F

-- a carriage return takes a following line feed with it
unfoldable pub return_at : List ℕ → Found
return_at s = F.Token K.Newline (cond (eqb (get_or s 1 0) 10) 2 1)

unfoldable pub word_at : List ℕ → Found
word_at s = F.Token (word_kind (take (word_end s 1) s)) (word_end s 1)

-- a digit or `-`, digits, an optional point with digits (then Float, else Integer), an optional exponent
unfoldable pub number_at : List ℕ → Found
number_at s =
    F.Token (cond (eqb (get_or s (digits_end s 1) 0) 46) K.Float K.Integer) (exponent_end s (point_end s (digits_end s 1)))

-- a string that stops at e: closed there; or row 3, its quote directly before the stop; or unclosed, its span to the stop;
-- or row 4, its last character over one byte
abbrev pub string_to : List ℕ → ℕ → Found
string_to s e =
    cond (eqb (get_or s e 0) 34) (F.Token (K.String true) (e + 1))
    (cond (eqb e 1) F.LoneQuote
    (cond (ltb (get_or s (e - 1) 0) 128) (F.Token (K.String false) e) F.CutCharacter))

unfoldable pub string_at : List ℕ → Found
string_at s = string_to s (string_stop s 1)

-- the first byte b alone decides; any other byte: one Unknown token to the end
unfoldable pub first_of : List ℕ → ℕ → Found
first_of s b =
    cond (eqb b 32 || eqb b 9) F.Blank
    (cond (eqb b 44) (F.Token K.Comma 1)
    (cond (eqb b 123) (F.Token K.OpenBrace 1)
    (cond (eqb b 125) (F.Token K.CloseBrace 1)
    (cond (eqb b 58) (F.Token K.Colon 1)
    (cond (eqb b 10) (F.Token K.Newline 1)
    (cond (eqb b 13) (return_at s)
    (cond (between 97 122 b || (between 65 90 b || (eqb b 95 || eqb b 36))) (word_at s)
    (cond (is_digit b || eqb b 45) (number_at s)
    (cond (eqb b 34) (string_at s) (F.Token K.Unknown (length s)))))))))))

abbrev pub first : List ℕ → Found
first s = first_of s (get_or s 0 0)

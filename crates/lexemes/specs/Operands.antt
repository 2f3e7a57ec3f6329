-- What an operand may be: document 01, 'Grammar', the words string, value, bool, u8, ..
use Rattle.std.specs.Prelude.{Bool, true, false, ◌&&◌, ◌||◌, List, [], ◌∷◌, ℕ, zero, suc, eqb, pos, negsuc, length, Some, None, ℤ}
use Rattle.std.proofs.Math.Option.{Option, none, some}
use Rattle.std.specs.Prelude as Std
use Rattle.tokens.specs.declared.TokenKind.TheVariants as K
use Rattle.tokens.specs.Kinds.{is_kind}
use Rattle.tokens.specs.Tokens.{span}
use Rattle.numbers.specs.Integers.{natural, integer}
use Rattle.values.specs.declared.PushValue.{PushValue}
use Rattle.values.specs.Values.{push_value}
use Rattle.lexemes.specs.Lexemes.{Lexeme, lexeme}

-- what an operand may be; `count n` is a count that acts as n
pub data Class : Type 0 where
  string value bool only_true only_false u8 u16 identifier target : Class
  count : ℕ → Class

-- count pairs of u8, string
abbrev pub pairs : ℕ → List Class
pairs zero = []
pairs (suc k) = u8 ∷ string ∷ pairs k

abbrev pub is_some : {A : Type 0} → Option A → Bool
is_some none = false
is_some (some v) = true

-- a negative count acts as 0
abbrev pub acts_as : ℕ → Std.Option ℤ → Bool
acts_as n (Some (pos m)) = eqb m n
acts_as n (Some (negsuc m)) = eqb 0 n
acts_as n None = false

-- a token's value, asked of its raw text alone
abbrev pub value_of : Lexeme → Option PushValue
value_of (lexeme i k w) = push_value k w (span 0 (length w))

-- u8, u16 and i32 take Integer tokens that Rust parses
abbrev pub is_operand : Class → Lexeme → Bool
is_operand string (lexeme i k w) = is_kind k (K.String true)
is_operand value t = is_some (value_of t)
is_operand bool (lexeme i k w) = is_kind k K.True || is_kind k K.False
is_operand only_true (lexeme i k w) = is_kind k K.True
is_operand only_false (lexeme i k w) = is_kind k K.False
is_operand u8 (lexeme i k w) = is_kind k K.Integer && Std.is_some (natural 255 w)
is_operand u16 (lexeme i k w) = is_kind k K.Integer && Std.is_some (natural 65535 w)
is_operand identifier (lexeme i k w) = is_kind k K.Identifier
is_operand target (lexeme i k w) = is_kind k (K.String true) || is_kind k (K.Register 0)
is_operand (count n) (lexeme i k w) = is_kind k K.Integer && acts_as n (integer w)

-- the number that an i32 acts as, if it is one: `acts_as` as a function, for the machine alone
abbrev pub acting : Std.Option ℤ → Option ℕ
acting (Some (pos m)) = some m
acting (Some (negsuc m)) = some 0
acting None = none

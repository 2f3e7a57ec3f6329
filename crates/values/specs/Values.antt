-- What a token is worth: document 01, 'Values and deltas'.
use Rattle.std.specs.Prelude.{false, cond, List, [], ℕ, ltb, Float, length, ℤ, Some, None, Result, Ok, Err}
use Rattle.std.proofs.Math.Option.{Option, none, some}
use Rattle.std.specs.Float.{nan, inf, binary64}
use Rattle.std.specs.Float.Ieee.{to_bits}
use Rattle.std.specs.Prelude as Std
use Rattle.answers.specs.declared.Refusal.{Refusal}
use Rattle.answers.specs.Answers.{Answer, accepted, refused, refusal}
use Rattle.tokens.specs.declared.TokenKind.{TokenKind}
use Rattle.tokens.specs.declared.TokenKind.TheVariants as K
use Rattle.tokens.specs.declared.Span.{Span}
use Rattle.tokens.specs.declared.Token.{Token}
use Rattle.tokens.specs.Kinds.{is_kind}
use Rattle.tokens.specs.Tokens.{is_within, part, raw_text}
use Rattle.words.specs.Spellings.{bytes}
use Rattle.words.specs.Words.{same_word}
use Rattle.numbers.specs.Integers.{natural, integer}
use Rattle.numbers.specs.Doubles.{double}
use Rattle.numbers.specs.declared.Double.{Double}
use Rattle.numbers.specs.declared.Double.TheVariants as D
use Rattle.values.specs.declared.PushValue.{PushValue}
use Rattle.values.specs.declared.PushValue.TheVariants as P

-- ---- a pushed value, from a token's raw text s and its bounds

-- the words infinity and nan, case ignored
unfoldable pub word_value : List ℕ → Option PushValue
word_value s =
    cond (same_word s (bytes "infinity")) (some (P.Float (inf false)))
    (cond (same_word s (bytes "nan")) (some (P.Float nan)) none)

abbrev pub double_or_long : Std.Option Double → Span → Option PushValue
double_or_long (Some (D.Is x)) raw = some (P.Float x)
double_or_long (Some D.Long) raw = some (P.Long raw)
double_or_long None raw = none

unfoldable pub float_value : List ℕ → Span → Option PushValue
float_value s raw = double_or_long (double s) raw

abbrev pub integer_or : Std.Option ℤ → Option PushValue → Option PushValue
integer_or (Some n) v = some (P.Integer n)
integer_or None v = v

-- an i32 if Rust parses one, else a number as Float
unfoldable pub integer_value : List ℕ → Span → Option PushValue
integer_value s raw = integer_or (integer s) (float_value s raw)

unfoldable pub push_value : TokenKind → List ℕ → Span → Option PushValue
push_value K.Newline s raw = none
push_value (K.String c) s raw = some (P.String raw)
push_value K.Float s raw = float_value s raw
push_value K.Integer s raw = integer_value s raw
push_value (K.Register n) s raw = some (P.Register n)
push_value (K.Constant n) s raw = some (P.Constant n)
push_value (K.ActionName a) s raw = none
push_value K.Identifier s raw = word_value s
push_value K.Colon s raw = none
push_value K.Comma s raw = none
push_value K.OpenBrace s raw = none
push_value K.CloseBrace s raw = none
push_value K.True s raw = some P.True
push_value K.False s raw = some P.False
push_value K.Null s raw = some P.Null
push_value K.Undefined s raw = some P.Undefined
push_value K.Catch s raw = none
push_value K.Finally s raw = none
push_value K.Unknown s raw = none

-- ---- the value call

-- 6 at 0 where no value exists
abbrev pub or_six : Option PushValue → Answer PushValue
or_six none = refused 6 0
or_six (some v) = accepted v

-- row 1 first; then 6 at 0 also where the raw bounds are out of order or past the text
unfoldable pub value_answer : List ℕ → Token → Answer PushValue
value_answer text t =
    cond (ltb 65536 (length text)) (refused 1 0)
    (cond (is_within (length text) t.raw) (or_six (push_value t.kind (part text t.raw) t.raw)) (refused 6 0))

abbrev pub answer : Result PushValue Refusal → Answer PushValue
answer (Ok v) = accepted v
answer (Err r) = refusal r

-- a double's bits, 0x7FF8000000000000 of nan
abbrev pub bits_of : Float → ℕ
bits_of x = to_bits binary64 x

-- ---- u8, u16 and i32

-- what a whole number is parsed from: of an Integer token its raw text, of any other token nothing
unfoldable pub integer_text : List ℕ → Token → List ℕ
integer_text text t = cond (is_kind t.kind K.Integer) (raw_text text t) []

abbrev pub u8_of : List ℕ → Token → Std.Option ℕ
u8_of text t = natural 255 (integer_text text t)

abbrev pub u16_of : List ℕ → Token → Std.Option ℕ
u16_of text t = natural 65535 (integer_text text t)

abbrev pub i32_of : List ℕ → Token → Std.Option ℤ
i32_of text t = integer (integer_text text t)

-- What `value` answers of a token is what the token means. Assumes nothing.
use mathlib.Core.Path.{◌≡◌, refl, sym, ap, ◌∙◌}
use mathlib.Core.Bool.{Bool, true, false, cond}
use mathlib.Core.List.{List, []}
use mathlib.Core.Option.{Option, none, some}
use Prim.Native.Nat.{ℕ, ◌≤◌}
use native.Mathlib.Omega.{arith}
use lib.Ieee.{Float, nan, inf}
use lib.ListN.{length, length-take, length-drop}
use borrow.Author.Tests.{le-ltb}
use Rattle.std.specs.Prelude.{Some, None, Result, Ok, Err}
use lib.IntN.{ℤ}
use Rattle.std.specs.Prelude as Std
use Rattle.answers.specs.declared.Refusal.{Refusal}
use Rattle.answers.specs.Answers.{Answer, accepted, refused}
use Rattle.tokens.specs.declared.TokenKind.{TokenKind}
use Rattle.tokens.specs.declared.TokenKind.TheVariants as K
use Rattle.tokens.specs.declared.Span.{Span}
use Rattle.tokens.specs.declared.Token.{Token}
use Rattle.tokens.specs.Kinds.{is_kind}
use Rattle.tokens.specs.Tokens.{span, within, part, raw_text}
use Rattle.numbers.specs.declared.Double.{Double}
use Rattle.numbers.specs.declared.Double.TheVariants as D
use Rattle.numbers.specs.Integers.{integer}
use Rattle.numbers.specs.Doubles.{double}
use Rattle.values.specs.declared.PushValue.{PushValue}
use Rattle.values.specs.declared.PushValue.TheVariants as P
use Rattle.values.specs.Values.{double_or_long, word_value, float_value, integer_or, integer_value, push_value, or_six, value_answer, answer}
use Rattle.words.specs.Spellings.{bytes}
use Rattle.words.specs.Words.{same_word}
use Rattle.movies.specs.Movie.{Value, null, number_in, text_in, is_register}
use Rattle.movies.specs.Strings.{decoded}
use Rattle.movies.specs.Meaning.{meant, meaning}
use Rattle.lexemes.specs.Lexemes.{lexeme}
use Rattle.action_records.specs.Operands.{pushed_as}
use Rattle.operand_coding.specs.Operands.{meaning_in, Held}

abbrev pub worth : List ℕ → Answer PushValue → Value
worth w (accepted v) = meant (some v) w
worth w (refused n p) = null

-- ---- bounds do not decide what a token means

or_six_lem : (w : List ℕ) (o : Option PushValue) → worth w (or_six o) ≡ meant o w
or_six_lem w none = refl
or_six_lem w (some v) = refl

float_anyway : (w : List ℕ) (d : Std.Option Double) (a b : Span) → meant (double_or_long d a) w ≡ meant (double_or_long d b) w
float_anyway w (Some (D.Is x)) a b = refl
float_anyway w (Some D.Long) a b = refl
float_anyway w None a b = refl

integer_anyway : (w : List ℕ) (z : Std.Option ℤ) (u v : Option PushValue) → meant u w ≡ meant v w → meant (integer_or z u) w ≡ meant (integer_or z v) w
integer_anyway w (Some n) u v h = refl
integer_anyway w None u v h = h

anyway : (k : TokenKind) (w : List ℕ) (a b : Span) → meant (push_value k w a) w ≡ meant (push_value k w b) w
unfolding push_value float_value integer_value
anyway K.Newline w a b = refl
anyway (K.String c) w a b = refl
anyway K.Float w a b = float_anyway w (double w) a b
anyway K.Integer w a b = integer_anyway w (integer w) (double_or_long (double w) a) (double_or_long (double w) b) (float_anyway w (double w) a b)
anyway (K.Register n) w a b = refl
anyway (K.Constant n) w a b = refl
anyway (K.ActionName n) w a b = refl
anyway K.Identifier w a b = refl
anyway K.Colon w a b = refl
anyway K.Comma w a b = refl
anyway K.OpenBrace w a b = refl
anyway K.CloseBrace w a b = refl
anyway K.True w a b = refl
anyway K.False w a b = refl
anyway K.Null w a b = refl
anyway K.Undefined w a b = refl
anyway K.Catch w a b = refl
anyway K.Finally w a b = refl
anyway K.Unknown w a b = refl

module _ (text : List ℕ) (t : Token) where
  worth_told : Held text t → worth (raw_text text t) (value_answer text t) ≡ meaning_in text t
  unfolding value_answer within
  worth_told f =
      rw (le-ltb 65536 (length text) f.bytes, f.within)
      (or_six_lem (part text t.raw) (push_value t.kind (part text t.raw) t.raw) ∙ anyway t.kind (part text t.raw) t.raw (span 0 (length (part text t.raw))))

  module _ (f : Held text t) (r : Result PushValue Refusal) (a : answer r ≡ value_answer text t) where
    pub value-is : (v : PushValue) → r ≡ Ok v → meant (some v) (raw_text text t) ≡ meaning_in text t
    value-is v e = ap (λ (x : Result PushValue Refusal). worth (raw_text text t) (answer x)) (sym e) ∙ ap (worth (raw_text text t)) a ∙ worth_told f

    pub no_value : (v : Refusal) → r ≡ Err v → null ≡ meaning_in text t
    no_value v e = ap (λ (x : Result PushValue Refusal). worth (raw_text text t) (answer x)) (sym e) ∙ ap (worth (raw_text text t)) a ∙ worth_told f

  pub raw-short : length text ≤ 65536 → length (raw_text text t) ≤ 65536
  raw-short h = simp (length-take, length-drop) (omega arith)

-- ---- a number hangs on no raw text

pub number_anyway : (v : PushValue) (w : List ℕ) → number_in (meant (some v) []) ≡ number_in (meant (some v) w)
number_anyway P.Null w = refl
number_anyway P.Undefined w = refl
number_anyway (P.String s) w = refl
number_anyway (P.Integer z) w = refl
number_anyway (P.Float x) w = refl
number_anyway P.True w = refl
number_anyway P.False w = refl
number_anyway (P.Register n) w = refl
number_anyway (P.Constant n) w = refl
number_anyway (P.Long s) w = refl

-- ---- strings and registers are told by their kinds

module _ (w : List ℕ) where
  float_plain : (d : Std.Option Double) (s : Span) → (text_in (meant (double_or_long d s) w) ≡ []) × (is_register (meant (double_or_long d s) w) ≡ false)
  float_plain (Some (D.Is x)) s = (refl, refl)
  float_plain (Some D.Long) s = (refl, refl)
  float_plain None s = (refl, refl)

  integer-plain : (z : Std.Option ℤ) (d : Std.Option Double) (s : Span)
      → (text_in (meant (integer_or z (double_or_long d s)) w) ≡ []) × (is_register (meant (integer_or z (double_or_long d s)) w) ≡ false)
  integer-plain (Some n) d s = (refl, refl)
  integer-plain None d s = float_plain d s

  word_plain : (a b : Bool) (x y : Float)
      → (text_in (meant (cond a (some (P.Float x)) (cond b (some (P.Float y)) none)) w) ≡ [])
      × (is_register (meant (cond a (some (P.Float x)) (cond b (some (P.Float y)) none)) w) ≡ false)
  word_plain true b x y = (refl, refl)
  word_plain false true x y = (refl, refl)
  word_plain false false x y = (refl, refl)

  pub by_kind : (k : TokenKind) (s : Span)
      → (text_in (meant (push_value k w s) w) ≡ cond (is_kind k (K.String true)) (decoded w) [])
      × (is_register (meant (push_value k w s) w) ≡ is_kind k (K.Register 0))
  unfolding push_value float_value integer_value word_value
  by_kind K.Newline s = (refl, refl)
  by_kind (K.String c) s = (refl, refl)
  by_kind K.Float s = float_plain (double w) s
  by_kind K.Integer s = integer-plain (integer w) (double w) s
  by_kind (K.Register n) s = (refl, refl)
  by_kind (K.Constant n) s = (refl, refl)
  by_kind (K.ActionName n) s = (refl, refl)
  by_kind K.Identifier s = word_plain (same_word w (bytes "infinity")) (same_word w (bytes "nan")) (inf false) nan
  by_kind K.Colon s = (refl, refl)
  by_kind K.Comma s = (refl, refl)
  by_kind K.OpenBrace s = (refl, refl)
  by_kind K.CloseBrace s = (refl, refl)
  by_kind K.True s = (refl, refl)
  by_kind K.False s = (refl, refl)
  by_kind K.Null s = (refl, refl)
  by_kind K.Undefined s = (refl, refl)
  by_kind K.Catch s = (refl, refl)
  by_kind K.Finally s = (refl, refl)
  by_kind K.Unknown s = (refl, refl)

module _ (text : List ℕ) (t : Token) where
  module _ (b : Bool) (e : b ≡ is_kind t.kind (K.String true)) where
    told : text_in (meaning_in text t) ≡ cond b (decoded (raw_text text t)) []
    told = (by_kind (raw_text text t) t.kind (span 0 (length (raw_text text t)))).0 ∙ ap (λ (x : Bool). cond x (decoded (raw_text text t)) []) (sym e)

    pub string-text : b ≡ true → (w : List ℕ) → w ≡ raw_text text t → decoded w ≡ text_in (meaning_in text t)
    string-text h w r = ap decoded r ∙ sym (told ∙ ap (λ (x : Bool). cond x (decoded (raw_text text t)) []) h)

    pub no_text : b ≡ false → [] ≡ text_in (meaning_in text t)
    no_text h = sym (told ∙ ap (λ (x : Bool). cond x (decoded (raw_text text t)) []) h)

  pub register-is : is_kind t.kind (K.Register 0) ≡ is_register (meaning_in text t)
  register-is = sym (by_kind (raw_text text t) t.kind (span 0 (length (raw_text text t)))).1

-- ---- by the kind of a token

pub kind-told : (text : List ℕ) (t : Token) {k : TokenKind} → t.kind ≡ k → pushed_as (meaning (lexeme 0 k (raw_text text t))) ≡ pushed_as (meaning_in text t)
kind-told text t e = ap (λ (k : TokenKind). pushed_as (meaning (lexeme 0 k (raw_text text t)))) (sym e)

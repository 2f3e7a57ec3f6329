-- Values by what was looked up. Assumes nothing.
use mathlib.Core.Path.{◌≡◌, refl, ◌∙◌}
use mathlib.Core.Bool.{Bool, true, false, and-false}
use mathlib.Core.List.{List, [], ◌∷◌}
use Prim.Native.Nat.{ℕ, ◌≤◌, ◌<◌}
use denote.Enum.Declared.{tag_of}
use lib.Dec.{T}
use lib.Ieee.{nan, inf}
use lib.ListN.{length}
use mir.Val.{has_key}
use types.Run.{OneOf}
use borrow.Author.Tests.{lt-ltb, le-ltb, le-leb, lt-leb}
use Rattle.answers.specs.Answers.{Answer, accepted, refused}
use Rattle.tokens.specs.contracts.TokenKind.{the_type}
use Rattle.tokens.specs.declared.TokenKind.{TokenKind}
use Rattle.tokens.specs.declared.TokenKind.TheVariants as K
use Rattle.tokens.specs.declared.Span.{Span}
use Rattle.tokens.specs.declared.Token.{Token}
use Rattle.tokens.proofs.Arms.{key_there}
use Rattle.tokens.specs.Tokens.{part}
use Rattle.words.specs.Spellings.{bytes}
use Rattle.words.specs.Words.{same_word}
use Rattle.values.specs.declared.PushValue.{PushValue}
use Rattle.values.specs.declared.PushValue.TheVariants as P
use Rattle.values.specs.Values.{word_value, push_value, or_six, value_answer}

module _ (s : List ℕ) (t : Bool) (et : t ≡ same_word s (bytes "infinity")) where
  pub is_infinity : t ≡ true → accepted (P.Float (inf false)) ≡ or_six (word_value s)
  unfolding word_value
  is_infinity h = simp (← et, h)

  module _ (g : t ≡ false) (u : Bool) (eu : u ≡ same_word s (bytes "nan")) where
    pub is_nan : u ≡ true → accepted (P.Float nan) ≡ or_six (word_value s)
    unfolding word_value
    is_nan h = simp (← et, g, ← eu, h)

    pub other_word : u ≡ false → refused 6 0 ≡ or_six (word_value s)
    unfolding word_value
    other_word h = simp (← et, g, ← eu, h)

module _ (text : List ℕ) (t : Token) where
  pub too_long : 65536 < length text → refused 1 0 ≡ value_answer text t
  unfolding value_answer
  too_long h = simp (lt-ltb 65536 (length text) h)

  module _ (h : length text ≤ 65536) where
    pub out_of_order : t.raw.end < t.raw.start → refused 6 0 ≡ value_answer text t
    unfolding value_answer
    out_of_order g = simp (le-ltb 65536 (length text) h, lt-leb t.raw.start t.raw.end g)

    pub past_the_text : length text < t.raw.end → refused 6 0 ≡ value_answer text t
    unfolding value_answer
    past_the_text g = simp (le-ltb 65536 (length text) h, lt-leb t.raw.end (length text) g, and-false)

    pub inside : t.raw.start ≤ t.raw.end → t.raw.end ≤ length text → (r : Answer PushValue)
        → r ≡ or_six (push_value t.kind (part text t.raw) t.raw) → r ≡ value_answer text t
    unfolding value_answer
    inside f g r e = e ∙ simp (le-ltb 65536 (length text) h, le-leb t.raw.start t.raw.end f, le-leb t.raw.end (length text) g)

-- ---- the arm of the other kinds

-- the places in `TokenKind` of the kinds without a value
abbrev pub others : List ℕ
others = 0 ∷ 6 ∷ 8 ∷ 9 ∷ 10 ∷ 11 ∷ 16 ∷ 17 ∷ 18 ∷ []

pub no_value : (k : TokenKind) (s : List ℕ) (raw : Span) → OneOf others (tag_of the_type k) → refused 6 0 ≡ or_six (push_value k s raw)
unfolding push_value
no_value k s raw h = by k (key_there others (tag_of the_type k) h)
  where
    by : (k : TokenKind) → T (has_key others (tag_of the_type k)) → refused 6 0 ≡ or_six (push_value k s raw)
    by K.Newline h = refl
    by (K.String c) h = absurd h
    by K.Float h = absurd h
    by K.Integer h = absurd h
    by (K.Register n) h = absurd h
    by (K.Constant n) h = absurd h
    by (K.ActionName a) h = refl
    by K.Identifier h = absurd h
    by K.Colon h = refl
    by K.Comma h = refl
    by K.OpenBrace h = refl
    by K.CloseBrace h = refl
    by K.True h = absurd h
    by K.False h = absurd h
    by K.Null h = absurd h
    by K.Undefined h = absurd h
    by K.Catch h = refl
    by K.Finally h = refl
    by K.Unknown h = refl

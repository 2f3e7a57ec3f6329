-- What the calls for C return and write of tokens, deltas and values. `old` is what an
-- `out` array held; `sets old 0 l` is `old` with the entries of l in place of its first.
use Rattle.std.specs.Prelude.{List, [], ◌∷◌, ℕ, ℤ, pos}
use Rattle.std.proofs.lemmas.List.Edits.{sets}
use Rattle.answers.specs.Answers.{Answer, accepted, refused}
use Rattle.tokens.specs.declared.Span.{Span}
use Rattle.tokens.specs.declared.Token.{Token}
use Rattle.tokens.specs.Kinds.{kind_number, kind_of}
use Rattle.tokens.specs.Tokens.{span}
use Rattle.values.specs.Values.{bits_of}
use Rattle.values.specs.declared.PushValue.{PushValue}
use Rattle.values.specs.declared.PushValue.TheVariants as P
use Rattle.c_tokens.specs.declared.ValueFields.{ValueFields}

-- 0, or the number of the refusal
abbrev pub returned : {A : Type 0} → Answer A → ℕ
returned (accepted v) = 0
returned (refused n p) = n

-- the count, or the place of the refusal
abbrev pub tokens_after : Answer ℕ → List ℕ → List ℕ
tokens_after (accepted n) old = sets old 0 (n ∷ [])
tokens_after (refused n p) old = sets old 0 (p ∷ [])

-- kind, span and raw bounds of a token
abbrev pub token_after : Token → List ℕ → List ℕ
token_after t old = sets old 0 (kind_number t.kind ∷ t.span.start ∷ t.span.end ∷ t.raw.start ∷ t.raw.end ∷ [])

abbrev pub bounds_after : Span → List ℕ → List ℕ
bounds_after s old = sets old 0 (s.start ∷ s.end ∷ [])

-- a refusal writes nothing
abbrev pub delta_after : Answer ℤ → List ℤ → List ℤ
delta_after (accepted d) old = sets old 0 (d ∷ [])
delta_after (refused n p) old = old

-- ---- values

-- the token of a kind's number with those raw bounds
abbrev pub token_with : ℕ → ℕ → ℕ → Token
token_with kind start end = record { kind = kind_of kind; span = span start end; raw = span start end }

-- what C is told of a value: its case, and the number, the double's bits or the bounds that the case holds, else 0
abbrev pub value_with : ℕ → ℤ → ℕ → Span → ValueFields
value_with t n b s = record { tag = t; integer = n; bits = b; text = s }

-- the cases in the order of `PushValue`
abbrev pub fields_of : PushValue → ValueFields
fields_of P.Null = value_with 0 (pos 0) 0 (span 0 0)
fields_of P.Undefined = value_with 1 (pos 0) 0 (span 0 0)
fields_of (P.String s) = value_with 2 (pos 0) 0 s
fields_of (P.Integer n) = value_with 3 n 0 (span 0 0)
fields_of (P.Float x) = value_with 4 (pos 0) (bits_of x) (span 0 0)
fields_of P.True = value_with 5 (pos 0) 0 (span 0 0)
fields_of P.False = value_with 6 (pos 0) 0 (span 0 0)
fields_of (P.Register n) = value_with 7 (pos n) 0 (span 0 0)
fields_of (P.Constant n) = value_with 8 (pos n) 0 (span 0 0)
fields_of (P.Long s) = value_with 9 (pos 0) 0 s

-- a refusal writes nothing
abbrev pub integer_after : Answer PushValue → List ℤ → List ℤ
integer_after (accepted v) old = sets old 0 ((fields_of v).integer ∷ [])
integer_after (refused n p) old = old

abbrev pub value_after : Answer PushValue → List ℕ → List ℕ
value_after (accepted v) old =
    let f = fields_of v in
    sets old 0 (f.tag ∷ f.bits ∷ f.text.start ∷ f.text.end ∷ [])
value_after (refused n p) old = old

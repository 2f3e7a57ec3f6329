-- The table word of a token, and the raw text.
use Rattle.std.specs.Prelude.{Bool, true, cond, ◌&&◌, List, ℕ, ◌+◌, ◌-◌, ◌*◌, ◌/◌, ◌%◌, leb, length, take, drop}
use Rattle.tokens.specs.declared.TokenKind.{TokenKind}
use Rattle.tokens.specs.declared.TokenKind.TheVariants as K
use Rattle.tokens.specs.declared.Span.{Span}
use Rattle.tokens.specs.declared.Token.{Token}
use Rattle.tokens.specs.Kinds.{is_kind, kind_number, kind_of}

abbrev pub span : ℕ → ℕ → Span
span a e = record { start = a; end = e }

-- a string's raw text leaves out the first and the last byte of its span; any other token's is the span
abbrev pub raw_in : TokenKind → Span → Span
raw_in k s = cond (is_kind k (K.String true)) (span (s.start + 1) (s.end - 1)) s

abbrev pub token_in : TokenKind → Span → Token
token_in k s = record { kind = k; span = s; raw = raw_in k s }

-- kind, start and end in one number
abbrev pub word_of : Token → ℕ
word_of t = kind_number t.kind * 1099511627776 + t.span.start * 1048576 + t.span.end

unfoldable pub token_of : ℕ → Token
token_of w = token_in (kind_of (w / 1099511627776)) (span (w / 1048576 % 1048576) (w % 1048576))

-- whether bounds are in order and not past a text of n bytes
abbrev pub is_within : ℕ → Span → Bool
is_within n s = leb s.start s.end && leb s.end n

-- such bounds, or else the empty part at byte 0
unfoldable pub within : ℕ → Span → Span
within n s = cond (is_within n s) s (span 0 0)

-- the bytes of a text within bounds
abbrev pub part : List ℕ → Span → List ℕ
part text s = take (s.end - s.start) (drop s.start text)

-- where the raw text of a token lies in a text of n bytes
abbrev pub raw_bounds : ℕ → Token → Span
raw_bounds n t = within n t.raw

-- the raw text of a token: that part of the text
abbrev pub raw_text : List ℕ → Token → List ℕ
raw_text text t = part text (raw_bounds (length text) t)

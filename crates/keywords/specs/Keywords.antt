-- The kind of a word, case ignored.
use Rattle.std.specs.Prelude.{cond, List, [], ◌∷◌, map, ℕ, ltb, length, take, drop, get_or, Option, Some, None}
use Prim.Native.String.{String}
use Rattle.actions.specs.Numbers.{action_at}
use Rattle.tokens.specs.declared.TokenKind.{TokenKind}
use Rattle.tokens.specs.declared.TokenKind.TheVariants as K
use Rattle.words.specs.Spellings.{bytes, spellings}
use Rattle.words.specs.Words.{index_in, same_word}
use Rattle.numbers.specs.Integers.{natural}

-- the number that stands behind a prefix, if it is at most `top`
unfoldable pub number_after : List ℕ → ℕ → List ℕ → Option ℕ
number_after p top w = cond (same_word (take (length p) w) p) (natural top (drop (length p) w)) None

pub record Keyword : Type 0 where
  pub spelling : String
  pub kind : TokenKind

infix 70 ◌means◌
abbrev pub ◌means◌ : String → TokenKind → Keyword
s means k = record { spelling = s; kind = k }

abbrev pub keywords : List Keyword
keywords =
    "catch" means K.Catch
    ∷ "false" means K.False
    ∷ "finally" means K.Finally
    ∷ "null" means K.Null
    ∷ "true" means K.True
    ∷ "undefined" means K.Undefined
    ∷ []

unfoldable pub keyword_words : List (List ℕ)
keyword_words = map (λ (x : Keyword). bytes x.spelling) keywords

abbrev pub keyword_kinds : List TokenKind
keyword_kinds = map (λ (x : Keyword). x.kind) keywords

-- one of the 100 names of actions, else a keyword, else an identifier
unfoldable pub named : List ℕ → TokenKind
named w =
    cond (ltb (index_in w spellings) 100)
    (K.ActionName (action_at (index_in w spellings)))
    (get_or keyword_kinds (index_in w keyword_words) K.Identifier)

abbrev pub constant_or : Option ℕ → TokenKind → TokenKind
constant_or (Some n) k = K.Constant n
constant_or None k = k

abbrev pub register_or : Option ℕ → TokenKind → TokenKind
register_or (Some n) k = K.Register n
register_or None k = k

-- `constant` and a number up to 65,535, else `register` and a number up to 255, else a name
unfoldable pub word_kind : List ℕ → TokenKind
word_kind w =
    constant_or (number_after (bytes "constant") 65535 w) (register_or (number_after (bytes "register") 255 w) (named w))

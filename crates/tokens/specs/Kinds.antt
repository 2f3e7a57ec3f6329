-- A token kind as a number, and back.
use Rattle.std.specs.Prelude.{Bool, false, not, cond, ◌&&◌, List, [], ◌∷◌, ℕ, ◌+◌, ◌*◌, ◌/◌, ◌%◌, eqb, get_or}
use Rattle.actions.specs.Numbers.{action_at, number_of}
use Rattle.tokens.specs.declared.TokenKind.{TokenKind}
use Rattle.tokens.specs.declared.TokenKind.TheVariants as K

-- a kind's place in `TokenKind`, and the number that it carries
pub record Code : Type 0 where
  pub place : ℕ
  pub carried : ℕ

infix 60 ◌carrying◌
abbrev pub ◌carrying◌ : ℕ → ℕ → Code
p carrying n = record { place = p; carried = n }

-- a string carries 1 where its closing quote is missing
abbrev pub code_of : TokenKind → Code
code_of K.Newline = 0 carrying 0
code_of (K.String c) = 1 carrying cond c 0 1
code_of K.Float = 2 carrying 0
code_of K.Integer = 3 carrying 0
code_of (K.Register n) = 4 carrying n
code_of (K.Constant n) = 5 carrying n
code_of (K.ActionName a) = 6 carrying number_of a
code_of K.Identifier = 7 carrying 0
code_of K.Colon = 8 carrying 0
code_of K.Comma = 9 carrying 0
code_of K.OpenBrace = 10 carrying 0
code_of K.CloseBrace = 11 carrying 0
code_of K.True = 12 carrying 0
code_of K.False = 13 carrying 0
code_of K.Null = 14 carrying 0
code_of K.Undefined = 15 carrying 0
code_of K.Catch = 16 carrying 0
code_of K.Finally = 17 carrying 0
code_of K.Unknown = 18 carrying 0

abbrev pub number_in : Code → ℕ
number_in c = c.place * 65536 + c.carried

abbrev pub kind_number : TokenKind → ℕ
kind_number k = number_in (code_of k)

-- whether two kinds are the same, whatever they carry
abbrev pub is_kind : TokenKind → TokenKind → Bool
is_kind k l = eqb (code_of k).place (code_of l).place

-- a string that lacks its closing quote: document 02, 'Say whether a string was closed'
abbrev pub is_unclosed : TokenKind → Bool
is_unclosed k = is_kind k (K.String false) && eqb (code_of k).carried 1

-- the kinds by place, those that carry a number carrying n; `Unknown` is what stands past its end
abbrev pub kinds : ℕ → List TokenKind
kinds n =
    K.Newline
    ∷ K.String (not (eqb n 1))
    ∷ K.Float
    ∷ K.Integer
    ∷ K.Register (n % 256)
    ∷ K.Constant n
    ∷ K.ActionName (action_at n)
    ∷ K.Identifier
    ∷ K.Colon
    ∷ K.Comma
    ∷ K.OpenBrace
    ∷ K.CloseBrace
    ∷ K.True
    ∷ K.False
    ∷ K.Null
    ∷ K.Undefined
    ∷ K.Catch
    ∷ K.Finally
    ∷ []

abbrev pub kind_in : Code → TokenKind
kind_in c = get_or (kinds c.carried) c.place K.Unknown

unfoldable pub kind_of : ℕ → TokenKind
kind_of n = kind_in (n / 65536 carrying n % 65536)

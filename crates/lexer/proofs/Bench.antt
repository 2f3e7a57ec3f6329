-- Document 01's bench texts and others, with a table of 12 places: one claim of the definition, by computation. Assumes nothing.
use mathlib.Core.Path.{◌≡◌, refl}
use mathlib.Core.Bool.{true, false}
use mathlib.Core.List.{List, [], ◌∷◌, ◌++◌, map}
use Prim.Native.Nat.{ℕ, zero, suc}
use lib.ListN.{replicate}
use Rattle.names.specs.declared.ActionName.{ActionName}
use Rattle.names.specs.declared.ActionName.TheVariants as A
use Rattle.answers.specs.Answers.{Answer, accepted, refused}
use Rattle.tokens.specs.declared.TokenKind.{TokenKind}
use Rattle.tokens.specs.declared.TokenKind.TheVariants as K
use Rattle.tokens.specs.declared.Token.{Token}
use Rattle.tokens.specs.Tokens.{span, token_in}
use Rattle.utf8.specs.Utf8.{char_in, starts, valid_from}
use Rattle.scanner.specs.Bytes.{is_word_byte, run_of}
use Rattle.scanner.specs.Ends.{exponent_end, point_end, power_end, sign_end, until_stop}
use Rattle.words.specs.Spellings.{bytes, spellings}
use Rattle.words.specs.Words.{index_in, lower, same_word}
use Rattle.numbers.specs.Integers.{is_natural, natural, up_to, value_from, with_byte}
use Rattle.keywords.specs.Keywords.{keyword_words, named, number_after, word_kind}
use Rattle.first_token.specs.First.{first_of, number_at, return_at, string_at, word_at}
use Rattle.lexer.specs.Lexing.{counted, lex_from, lex_text}

abbrev tok : TokenKind → ℕ → ℕ → Token
tok k a e = token_in k (span a e)

abbrev act : ActionName → ℕ → ℕ → Token
act a s e = tok (K.ActionName a) s e

-- a text and what lexing gives of it
pub record Case : Type 0 where
  pub text : List ℕ
  pub lexed : Answer (List Token)

infix 70 ◌gives◌
abbrev ◌gives◌ : List ℕ → Answer (List Token) → Case
s gives r = record { text = s; lexed = r }

-- é in UTF-8
abbrev accented : List ℕ
accented = 195 ∷ 169 ∷ []

cases : List Case
cases =
    [] gives accepted ([])
    ∷ (bytes "Push 1e5") gives accepted (act A.Push 0 4 ∷ tok K.Integer 5 7 ∷ tok K.Integer 7 8 ∷ [])
    ∷ (bytes "Push 1e5\n") gives accepted (act A.Push 0 4 ∷ tok K.Integer 5 8 ∷ tok K.Newline 8 9 ∷ [])
    ∷ (bytes "Push 2147483647, 2147483648") gives accepted (act A.Push 0 4 ∷ tok K.Integer 5 15 ∷ tok K.Comma 15 16 ∷ tok K.Integer 17 27 ∷ [])
    ∷ (bytes "Push -0, -0.0") gives accepted (act A.Push 0 4 ∷ tok K.Integer 5 7 ∷ tok K.Comma 7 8 ∷ tok K.Float 9 13 ∷ [])
    ∷ (bytes "Push constant65536") gives accepted (act A.Push 0 4 ∷ tok K.Identifier 5 18 ∷ [])
    ∷ (bytes "conSTANT0065535 register256 REGISTER255 register") gives accepted (tok (K.Constant 65535) 0 15 ∷ tok K.Identifier 16 27 ∷ tok (K.Register 255) 28 39 ∷ tok K.Identifier 40 48 ∷ [])
    ∷ (bytes "Push constant65535") gives accepted (act A.Push 0 4 ∷ tok (K.Constant 65535) 5 18 ∷ [])
    ∷ (bytes "Push register256") gives accepted (act A.Push 0 4 ∷ tok K.Identifier 5 16 ∷ [])
    ∷ (bytes "Push register255") gives accepted (act A.Push 0 4 ∷ tok (K.Register 255) 5 16 ∷ [])
    ∷ (bytes "StoreRegister 255") gives accepted (act A.StoreRegister 0 13 ∷ tok K.Integer 14 17 ∷ [])
    ∷ (bytes "StoreRegister 256") gives accepted (act A.StoreRegister 0 13 ∷ tok K.Integer 14 17 ∷ [])
    ∷ (bytes "StoreRegister -0") gives accepted (act A.StoreRegister 0 13 ∷ tok K.Integer 14 16 ∷ [])
    ∷ (bytes "\"") gives refused 3 0
    ∷ (bytes "\"\n") gives refused 3 0
    ∷ (bytes "GotoLabel \"ab") gives accepted (act A.GotoLabel 0 9 ∷ tok (K.String false) 10 13 ∷ [])
    ∷ (bytes "GotoLabel \"" ++ accented) gives refused 4 10
    ∷ (bytes "\"" ++ accented ++ bytes "\" \"" ++ accented ++ bytes "\n\"") gives refused 4 5
    ∷ (bytes "\"a\\\"b\\\\\" \"c\\d\"\r\n\"x\n") gives accepted (tok (K.String true) 0 8 ∷ tok (K.String true) 9 14 ∷ tok K.Newline 14 16 ∷ tok (K.String false) 16 18 ∷ tok K.Newline 18 19 ∷ [])
    ∷ (bytes "\"\\\n") gives accepted (tok (K.String false) 0 2 ∷ tok K.Newline 2 3 ∷ [])
    ∷ (bytes "DefineFunction \"f\", -3 {}") gives accepted (act A.DefineFunction 0 14 ∷ tok (K.String true) 15 18 ∷ tok K.Comma 18 19 ∷ tok K.Integer 20 22 ∷ tok K.OpenBrace 23 24 ∷ tok K.CloseBrace 24 25 ∷ [])
    ∷ (bytes "With { Add }") gives accepted (act A.With 0 4 ∷ tok K.OpenBrace 5 6 ∷ act A.Add 7 10 ∷ tok K.CloseBrace 11 12 ∷ [])
    ∷ (bytes "With { a: }") gives accepted (act A.With 0 4 ∷ tok K.OpenBrace 5 6 ∷ tok K.Identifier 7 8 ∷ tok K.Colon 8 9 ∷ tok K.CloseBrace 10 11 ∷ [])
    ∷ (bytes "a: Add\na: Pop") gives accepted (tok K.Identifier 0 1 ∷ tok K.Colon 1 2 ∷ act A.Add 3 6 ∷ tok K.Newline 6 7 ∷ tok K.Identifier 7 8 ∷ tok K.Colon 8 9 ∷ act A.Pop 10 13 ∷ [])
    ∷ (bytes "\r\r\n\t$x_9 1.5e-3,.") gives accepted (tok K.Newline 0 1 ∷ tok K.Newline 1 3 ∷ tok K.Identifier 4 8 ∷ tok K.Float 9 15 ∷ tok K.Comma 15 16 ∷ tok K.Unknown 16 17 ∷ [])
    ∷ ((239 ∷ 187 ∷ 191 ∷ []) ++ bytes "Add") gives accepted (tok K.Unknown 0 6 ∷ [])
    ∷ (bytes "ab" ++ (237 ∷ 160 ∷ 128 ∷ [])) gives refused 2 2
    ∷ (bytes "1.2.3 -5e+") gives accepted (tok K.Float 0 3 ∷ tok K.Unknown 3 10 ∷ [])
    ∷ (bytes "-5e+ 1e 1.e5 -.5 -") gives accepted (tok K.Integer 0 4 ∷ tok K.Integer 5 7 ∷ tok K.Float 8 12 ∷ tok K.Float 13 16 ∷ tok K.Integer 17 18 ∷ [])
    ∷ (bytes "tRue falsE null undefined catch Finally infinity") gives accepted (tok K.True 0 4 ∷ tok K.False 5 10 ∷ tok K.Null 11 15 ∷ tok K.Undefined 16 25 ∷ tok K.Catch 26 31 ∷ tok K.Finally 32 39 ∷ tok K.Identifier 40 48 ∷ [])
    ∷ (bytes ",,,,,,,,,,,,") gives accepted (tok K.Comma 0 1 ∷ tok K.Comma 1 2 ∷ tok K.Comma 2 3 ∷ tok K.Comma 3 4 ∷ tok K.Comma 4 5 ∷ tok K.Comma 5 6 ∷ tok K.Comma 6 7 ∷ tok K.Comma 7 8 ∷ tok K.Comma 8 9 ∷ tok K.Comma 9 10 ∷ tok K.Comma 10 11 ∷ tok K.Comma 11 12 ∷ [])
    ∷ (bytes ",,,,,,,,,,,,,") gives refused 5 13
    ∷ []

bench : map (λ (c : Case). lex_text c.text 12) cases ≡ map (λ (c : Case). c.lexed) cases
unfolding cases bytes spellings index_in lower same_word is_natural keyword_words named natural number_after up_to value_from with_byte word_kind char_in starts valid_from
    is_word_byte run_of exponent_end point_end power_end sign_end until_stop first_of number_at return_at string_at word_at lex_from lex_text
bench = refl

-- ---- the nested texts: n times With, a line feed only after each closing brace

abbrev opened : ℕ → List ℕ
opened zero = []
opened (suc n) = bytes "With{" ++ opened n

abbrev closed : ℕ → List ℕ
closed zero = []
closed (suc n) = 125 ∷ 10 ∷ closed n

-- 64 and 65 of them: two tokens to open and two to close each
nested : map (λ (n : ℕ). counted (lex_text (opened n ++ closed n) 65536)) (64 ∷ 65 ∷ []) ≡ accepted 256 ∷ accepted 260 ∷ []
unfolding bytes spellings index_in lower same_word is_natural keyword_words named natural number_after up_to value_from with_byte word_kind char_in starts valid_from is_word_byte run_of exponent_end point_end power_end sign_end until_stop first_of number_at return_at string_at word_at lex_from lex_text
nested = refl

-- a byte more than 65,536
too_long : lex_text (replicate 65537 10) 65536 ≡ refused 1 0
unfolding lex_text
too_long = refl

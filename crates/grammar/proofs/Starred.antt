-- Document 01's starred bench texts: one claim of the written grammar and the token rules jointly. Assumes nothing.
use mathlib.Core.Path.{refl}
use mathlib.Core.Bool.{true, false}
use mathlib.Core.List.{List, [], ◌∷◌}
use mathlib.Core.Option.{some}
use lib.IntN.{pos, neg_ℤ}
use lib.Count.{count_trailing_zeros}
use lib.Ieee.{binary64, neg, of_int, mul, div, round, size, units, odd, span, climb}
use Rattle.names.specs.declared.ActionName.TheVariants as A
use Rattle.actions.specs.Numbers.{number_of}
use Rattle.shapes.specs.Shapes.{shape_of}
use Rattle.pcode.specs.Deltas.{delta_of, fixed_delta}
use Rattle.tokens.specs.declared.TokenKind.TheVariants as K
use Rattle.tokens.specs.Tokens.{within}
use Rattle.utf8.specs.Utf8.{char_in, starts, valid_from}
use Rattle.scanner.specs.Bytes.{is_word_byte, run_of}
use Rattle.scanner.specs.Ends.{exponent_end, point_end, power_end, sign_end, until_stop}
use Rattle.words.specs.Spellings.{bytes, spellings}
use Rattle.words.specs.Words.{index_in, lower, same_word}
use Rattle.numbers.specs.Integers.{is_natural, natural, integer, up_to, value_from, with_byte}
use Rattle.numbers.specs.Doubles.{whole_end, mantissa_end, fraction_digits, has_digit, is_exponent, is_number, scaled, double_of, double as doubleIn}
use Rattle.keywords.specs.Keywords.{keyword_words, named, number_after, word_kind}
use Rattle.first_token.specs.First.{first_of, number_at, return_at, string_at, word_at}
use Rattle.lexer.specs.Lexing.{lex_from, lex_text}
use Rattle.values.specs.declared.PushValue.TheVariants as P
use Rattle.values.specs.Values.{word_value, float_value, integer_value, push_value}
use Rattle.lexemes.specs.Lexemes.{lexeme}
use Rattle.lexemes.specs.Events.{body}
use Rattle.grammar.specs.Grammar.{done, label, action, no_blocks, block}
use Rattle.grammar.specs.Reading.{reading_of}
use Rattle.grammar.specs.Nets.{nets}
use Rattle.grammar.proofs.Cases.{act, op, top, of, lacking, at, up, down, whole, double, letters, Case, reads, refuses, AllTold, no_more, ◌also◌, read_told, six_told, lexing_told}

-- text, actions, operands with their values, levels, labels; or text, refusal, place
abbrev pub starred : List Case
starred =
    reads [] [] [] (top 0 (up 0) ∷ []) []
    ∷ refuses (bytes "Push 1e5") 6 1
    ∷ reads (bytes "Push 1e5\n") (act A.Push 0 ∷ []) (op 0 1 K.Integer (bytes "1e5") (double (of_int binary64 (pos 100000))) ∷ []) (top 1 (up 1) ∷ []) []
    ∷ reads (bytes "Push 2147483647, 2147483648")
    (act A.Push 0 ∷ [])
    (op 0 1 K.Integer (bytes "2147483647") (whole (pos 2147483647))
    ∷ op 0 3 K.Integer (bytes "2147483648") (double (of_int binary64 (pos 2147483648))) ∷ [])
    (top 1 (up 2) ∷ [])
    []
    ∷ reads (bytes "Push -0, -0.0")
    (act A.Push 0 ∷ [])
    (op 0 1 K.Integer (bytes "-0") (whole (pos 0)) ∷ op 0 3 K.Float (bytes "-0.0") (double (neg (of_int binary64 (pos 0)))) ∷ [])
    (top 1 (up 2) ∷ [])
    []
    ∷ refuses (bytes "Push constant65536") 6 1
    ∷ reads (bytes "Push constant65535") (act A.Push 0 ∷ []) (op 0 1 (K.Constant 65535) (bytes "constant65535") (some (P.Constant 65535)) ∷ []) (top 1 (up 1) ∷ []) []
    ∷ refuses (bytes "\"") 3 0
    ∷ reads (bytes "GotoLabel \"ab") (act A.GotoLabel 0 ∷ []) (op 0 1 (K.String false) (bytes "a") (letters 1) ∷ []) (lacking 1 (top 1 (up 0)) ∷ []) []
    ∷ reads (bytes "DefineFunction \"f\", -3 {}")
    (act A.DefineFunction 0 ∷ [])
    (op 0 1 (K.String true) (bytes "f") (letters 1) ∷ op 0 3 K.Integer (bytes "-3") (whole (neg_ℤ (pos 3))) ∷ [])
    (top 1 (up 0) ∷ of 0 body 0 (up 0) ∷ [])
    []
    ∷ refuses (bytes "With { Add }") 6 3
    ∷ reads (bytes "With { a: }") (act A.With 0 ∷ []) [] (top 1 (down 1) ∷ of 0 body 0 (up 0) ∷ []) (at 1 2 (bytes "a") 0 ∷ [])
    ∷ reads (bytes "a: Add\na: Pop") (act A.Add 0 ∷ act A.Pop 0 ∷ []) [] (top 2 (down 2) ∷ []) (at 0 0 (bytes "a") 1 ∷ [])
    ∷ []

pub starred_told : AllTold starred
unfolding
    bytes spellings index_in lower same_word is_natural keyword_words named natural integer number_after up_to value_from with_byte word_kind char_in starts
    valid_from is_word_byte run_of exponent_end point_end power_end sign_end until_stop first_of number_at return_at string_at word_at lex_from lex_text within
    word_value float_value integer_value push_value whole_end mantissa_end fraction_digits has_digit is_exponent is_number scaled double_of doubleIn neg of_int mul div round size units odd span climb count_trailing_zeros
    reading_of shape_of number_of nets delta_of fixed_delta
starred_told =
    read_told done refl refl refl refl refl
    also six_told 1 2 refl refl refl
    also read_told (action A.Push (lexeme 1 K.Integer (bytes "1e5") ∷ []) no_blocks done) refl refl refl refl refl
    also read_told (action A.Push (lexeme 1 K.Integer (bytes "2147483647") ∷ lexeme 3 K.Integer (bytes "2147483648") ∷ []) no_blocks done) refl refl refl refl refl
    also read_told (action A.Push (lexeme 1 K.Integer (bytes "-0") ∷ lexeme 3 K.Float (bytes "-0.0") ∷ []) no_blocks done) refl refl refl refl refl
    also six_told 1 1 refl refl refl
    also read_told (action A.Push (lexeme 1 (K.Constant 65535) (bytes "constant65535") ∷ []) no_blocks done) refl refl refl refl refl
    also lexing_told 3 0 refl
    also read_told (action A.GotoLabel (lexeme 1 (K.String false) (bytes "a") ∷ []) no_blocks done) refl refl refl refl refl
    also read_told (action A.DefineFunction (lexeme 1 (K.String true) (bytes "f") ∷ lexeme 3 K.Integer (bytes "-3") ∷ []) (block body done no_blocks) done) refl refl refl refl refl
    also six_told 3 1 refl refl refl
    also read_told (action A.With [] (block body (label (lexeme 2 K.Identifier (bytes "a")) done) no_blocks) done) refl refl refl refl refl
    also read_told (label (lexeme 0 K.Identifier (bytes "a")) (action A.Add [] no_blocks (label (lexeme 4 K.Identifier (bytes "a")) (action A.Pop [] no_blocks done)))) refl refl refl refl refl
    also no_more

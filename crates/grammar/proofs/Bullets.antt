-- Texts for the other bullets of the grammar, and document 01's other bench texts on grammar: a second such claim. Assumes nothing.
use mathlib.Core.Path.{refl}
use mathlib.Core.Bool.{true, false}
use mathlib.Core.List.{List, [], ◌∷◌, ◌++◌}
use mathlib.Core.Option.{none, some}
use Prim.Native.Nat.{ℕ, zero, suc}
use lib.IntN.{pos}
use lib.ListN.{replicate}
use Rattle.answers.specs.Answers.{accepted}
use Rattle.names.specs.declared.ActionName.TheVariants as A
use Rattle.actions.specs.Numbers.{number_of}
use Rattle.shapes.specs.Shapes.{shape_of}
use Rattle.pcode.specs.Deltas.{delta_of, fixed_delta}
use Rattle.tokens.specs.declared.TokenKind.TheVariants as K
use Rattle.tokens.specs.Tokens.{within}
use Rattle.utf8.specs.Utf8.{char_in, starts, valid_from}
use Rattle.scanner.specs.Bytes.{is_word_byte, run_of}
use Rattle.scanner.specs.Ends.{exponent_end, point_end, power_end, sign_end, until_stop}
use Rattle.words.specs.Spellings.{bytes, spellings}
use Rattle.words.specs.Words.{index_in, lower, same_word}
use Rattle.numbers.specs.Integers.{is_natural, natural, integer, up_to, value_from, with_byte}
use Rattle.numbers.specs.Doubles.{whole_end, mantissa_end, fraction_digits, has_digit, is_exponent, is_number, scaled, double_of, double as doubleIn}
use Rattle.keywords.specs.Keywords.{keyword_words, named, number_after, word_kind}
use Rattle.first_token.specs.First.{first_of, number_at, return_at, string_at, word_at}
use Rattle.lexer.specs.Lexing.{lex_from, lex_text}
use Rattle.values.specs.declared.PushValue.TheVariants as P
use Rattle.values.specs.Values.{word_value, float_value, integer_value, push_value}
use Rattle.lexemes.specs.Lexemes.{lexeme}
use Rattle.lexemes.specs.Events.{body, try, catch, finally}
use Rattle.grammar.specs.Grammar.{Items, done, label, action, no_blocks, block}
use Rattle.grammar.specs.Reading.{reading_of}
use Rattle.grammar.specs.Nets.{undetermined, nets}
use Rattle.grammar.proofs.Cases.{act, op, top, of, lacking, at, up, down, whole, letters, Case, reads, refuses, AllTold, no_more, ◌also◌, read_told, six_told, seven_told}

-- n times With, a line feed only after each closing brace
abbrev opened : ℕ → List ℕ
opened zero = []
opened (suc n) = bytes "With{" ++ opened n

abbrev closed : ℕ → List ℕ
closed zero = []
closed (suc n) = 125 ∷ 10 ∷ closed n

abbrev nested : ℕ → Items
nested zero = done
nested (suc n) = action A.With [] (block body (nested n) no_blocks) done

abbrev pub bullets : List Case
bullets =
    -- a trailing comma
    refuses (bytes "Push 1,") 6 3
    ∷ refuses (bytes "Push 1,\n") 6 3
    ∷ reads (bytes "Push") (act A.Push 0 ∷ []) [] (top 1 (up 0) ∷ []) []
    ∷ reads (bytes "ConstantPool \"a\", \"\"")
    (act A.ConstantPool 0 ∷ [])
    (op 0 1 (K.String true) (bytes "a") (letters 1) ∷ op 0 3 (K.String true) [] (letters 0) ∷ [])
    (top 1 (up 0) ∷ [])
    []
    -- operands, none missing and none too many
    ∷ reads (bytes "GetUrl \"a\", \"b\"") (act A.GetUrl 0 ∷ []) (op 0 1 (K.String true) (bytes "a") (letters 1) ∷ op 0 3 (K.String true) (bytes "b") (letters 1) ∷ []) (top 1 (up 0) ∷ []) []
    ∷ refuses (bytes "GetUrl \"a\" \"b\"") 6 2
    ∷ refuses (bytes "GetUrl2 true, false") 6 4
    ∷ reads (bytes "GotoFrame2 true, false, 7")
    (act A.GotoFrame2 0 ∷ [])
    (op 0 1 K.True (bytes "true") (some P.True) ∷ op 0 3 K.False (bytes "false") (some P.False) ∷ op 0 5 K.Integer (bytes "7") (whole (pos 7)) ∷ [])
    (top 1 (down 1) ∷ [])
    []
    ∷ refuses (bytes "GotoFrame2 true, false") 6 4
    ∷ refuses (bytes "GotoFrame2 false, true, 7") 6 4
    ∷ reads (bytes "StoreRegister 255") (act A.StoreRegister 0 ∷ []) (op 0 1 K.Integer (bytes "255") (whole (pos 255)) ∷ []) (top 1 (up 0) ∷ []) []
    ∷ refuses (bytes "StoreRegister 256") 6 1
    ∷ refuses (bytes "StoreRegister -0") 6 1
    ∷ reads (bytes "Push constant0, register255")
    (act A.Push 0 ∷ [])
    (op 0 1 (K.Constant 0) (bytes "constant0") (some (P.Constant 0)) ∷ op 0 3 (K.Register 255) (bytes "register255") (some (P.Register 255)) ∷ [])
    (top 1 (up 2) ∷ [])
    []
    ∷ refuses (bytes "Push register256") 6 1
    -- functions: the comma behind the count, and the pairs
    ∷ reads (bytes "DefineFunction \"f\", 2, \"a\", \"b\" {}")
    (act A.DefineFunction 0 ∷ [])
    (op 0 1 (K.String true) (bytes "f") (letters 1) ∷ op 0 3 K.Integer (bytes "2") (whole (pos 2)) ∷ op 0 5 (K.String true) (bytes "a") (letters 1)
    ∷ op 0 7 (K.String true) (bytes "b") (letters 1) ∷ [])
    (top 1 (up 0) ∷ of 0 body 0 (up 0) ∷ [])
    []
    ∷ refuses (bytes "DefineFunction \"f\", 1 {}") 6 4
    ∷ refuses (bytes "DefineFunction \"f\", 0, {}") 6 4
    ∷ reads (bytes "DefineFunction2 \"\", 1, 2, true, true, true, true, true, true, true, true, true, 3, \"a\" {}")
    (act A.DefineFunction2 0 ∷ [])
    (op 0 1 (K.String true) [] (letters 0) ∷ op 0 3 K.Integer (bytes "1") (whole (pos 1)) ∷ op 0 5 K.Integer (bytes "2") (whole (pos 2))
    ∷ op 0 7 K.True (bytes "true") (some P.True) ∷ op 0 9 K.True (bytes "true") (some P.True) ∷ op 0 11 K.True (bytes "true") (some P.True)
    ∷ op 0 13 K.True (bytes "true") (some P.True) ∷ op 0 15 K.True (bytes "true") (some P.True) ∷ op 0 17 K.True (bytes "true") (some P.True)
    ∷ op 0 19 K.True (bytes "true") (some P.True) ∷ op 0 21 K.True (bytes "true") (some P.True) ∷ op 0 23 K.True (bytes "true") (some P.True)
    ∷ op 0 25 K.Integer (bytes "3") (whole (pos 3)) ∷ op 0 27 (K.String true) (bytes "a") (letters 1) ∷ [])
    (top 1 (up 1) ∷ of 0 body 0 (up 0) ∷ [])
    []
    -- newlines: one behind an action, none before a brace, one before a handler
    ∷ refuses (bytes "Add Add") 6 1
    ∷ refuses (bytes "}") 6 0
    ∷ refuses (bytes "With\n{}") 6 1
    ∷ refuses (bytes "Try {} catch {}") 6 3
    ∷ refuses (bytes "Try {}\nfinally {}\ncatch {}") 6 8
    ∷ reads (bytes "Try {}\n\ncatch {}\nfinally {}") (act A.Try 0 ∷ []) [] (top 1 (up 0) ∷ of 0 try 0 (up 0) ∷ of 0 catch 0 (up 0) ∷ of 0 finally 0 (up 0) ∷ []) []
    -- a target, kept and dropped
    ∷ reads (bytes "Try \"e\" {}\ncatch {}") (act A.Try 0 ∷ []) (op 0 1 (K.String true) (bytes "e") (letters 1) ∷ []) (top 1 (up 0) ∷ of 0 try 0 (up 0) ∷ of 0 catch 0 (up 0) ∷ []) []
    ∷ reads (bytes "Try \"e\" {}\nfinally {}") (act A.Try 0 ∷ []) [] (top 1 (up 0) ∷ of 0 try 0 (up 0) ∷ of 0 finally 0 (up 0) ∷ []) []
    -- labels: byte for byte, each level its own
    ∷ reads (bytes "b: A: a: A:") [] [] (top 0 (up 0) ∷ []) (at 0 0 (bytes "b") 0 ∷ at 0 2 (bytes "A") 0 ∷ at 0 4 (bytes "a") 0 ∷ [])
    ∷ reads (bytes "start: Push \"ok\", 3\nWith {\nTrace\ndone: }\nJump start\n")
    (act A.Push 0 ∷ act A.With 0 ∷ act A.Trace 1 ∷ act A.Jump 0 ∷ [])
    (op 0 3 (K.String true) (bytes "ok") (letters 2) ∷ op 0 5 K.Integer (bytes "3") (whole (pos 3)) ∷ op 3 17 K.Identifier (bytes "start") none ∷ [])
    (top 3 (up 1) ∷ of 1 body 1 (down 1) ∷ [])
    (at 0 0 (bytes "start") 0 ∷ at 1 12 (bytes "done") 1 ∷ [])
    -- strings without their closing quote: each level counts its own
    ∷ reads (bytes "Push \"ab\nWith {\nPush 1, \"c\\\"\n}\n")
    (act A.Push 0 ∷ act A.With 0 ∷ act A.Push 1 ∷ [])
    (op 0 1 (K.String false) (bytes "a") (letters 1) ∷ op 2 7 K.Integer (bytes "1") (whole (pos 1)) ∷ op 2 9 (K.String false) (bytes "c\\") (letters 2) ∷ [])
    (lacking 1 (top 2 (up 0)) ∷ lacking 1 (of 1 body 1 (up 2)) ∷ [])
    []
    ∷ reads (bytes "With {\nx: Add\n}\nx: Jump x\n")
    (act A.With 0 ∷ act A.Add 1 ∷ act A.Jump 0 ∷ [])
    (op 2 12 K.Identifier (bytes "x") none ∷ [])
    (top 2 (down 1) ∷ of 0 body 1 (down 1) ∷ [])
    (at 0 9 (bytes "x") 1 ∷ at 1 3 (bytes "x") 0 ∷ [])
    -- nets: bodies not counted, the first of the seven by its number
    ∷ reads (bytes "With {\nInitArray\n}\nSetMember\nCallFunction\nNewMethod")
    (act A.With 0 ∷ act A.InitArray 1 ∷ act A.SetMember 0 ∷ act A.CallFunction 0 ∷ act A.NewMethod 0 ∷ [])
    []
    (top 4 (undetermined 3) ∷ of 0 body 1 (undetermined 1) ∷ [])
    []
    -- 64 blocks open, and 65
    ∷ record { text = opened 64 ++ closed 64; answer = accepted (reading_of (nested 64)); values = []; nets = replicate 64 (down 1) ++ (up 0 ∷ []) }
    ∷ refuses (opened 65 ++ closed 65) 7 129
    ∷ []

pub bullets_told : AllTold bullets
unfolding
    bytes spellings index_in lower same_word is_natural keyword_words named natural integer number_after up_to value_from with_byte word_kind char_in starts
    valid_from is_word_byte run_of exponent_end point_end power_end sign_end until_stop first_of number_at return_at string_at word_at lex_from lex_text within
    word_value float_value integer_value push_value whole_end mantissa_end fraction_digits has_digit is_exponent is_number scaled double_of doubleIn
    reading_of shape_of number_of nets delta_of fixed_delta
bullets_told =
    six_told 3 0 refl refl refl
    also six_told 3 1 refl refl refl
    also read_told (action A.Push [] no_blocks done) refl refl refl refl refl
    also read_told (action A.ConstantPool (lexeme 1 (K.String true) (bytes "a") ∷ lexeme 3 (K.String true) [] ∷ []) no_blocks done) refl refl refl refl refl
    also read_told (action A.GetUrl (lexeme 1 (K.String true) (bytes "a") ∷ lexeme 3 (K.String true) (bytes "b") ∷ []) no_blocks done) refl refl refl refl refl
    also six_told 2 1 refl refl refl
    also six_told 4 0 refl refl refl
    also read_told (action A.GotoFrame2 (lexeme 1 K.True (bytes "true") ∷ lexeme 3 K.False (bytes "false") ∷ lexeme 5 K.Integer (bytes "7") ∷ []) no_blocks done) refl refl refl refl refl
    also six_told 4 0 refl refl refl
    also six_told 4 2 refl refl refl
    also read_told (action A.StoreRegister (lexeme 1 K.Integer (bytes "255") ∷ []) no_blocks done) refl refl refl refl refl
    also six_told 1 1 refl refl refl
    also six_told 1 1 refl refl refl
    also read_told (action A.Push (lexeme 1 (K.Constant 0) (bytes "constant0") ∷ lexeme 3 (K.Register 255) (bytes "register255") ∷ []) no_blocks done) refl refl refl refl refl
    also six_told 1 1 refl refl refl
    also read_told (action A.DefineFunction (lexeme 1 (K.String true) (bytes "f") ∷ lexeme 3 K.Integer (bytes "2") ∷ lexeme 5 (K.String true) (bytes "a") ∷ lexeme 7 (K.String true) (bytes "b") ∷ []) (block body done no_blocks) done) refl refl refl refl refl
    also six_told 4 2 refl refl refl
    also six_told 4 3 refl refl refl
    also read_told (action A.DefineFunction2 (lexeme 1 (K.String true) [] ∷ lexeme 3 K.Integer (bytes "1") ∷ lexeme 5 K.Integer (bytes "2") ∷ lexeme 7 K.True (bytes "true") ∷ lexeme 9 K.True (bytes "true") ∷ lexeme 11 K.True (bytes "true") ∷ lexeme 13 K.True (bytes "true") ∷ lexeme 15 K.True (bytes "true") ∷ lexeme 17 K.True (bytes "true") ∷ lexeme 19 K.True (bytes "true") ∷ lexeme 21 K.True (bytes "true") ∷ lexeme 23 K.True (bytes "true") ∷ lexeme 25 K.Integer (bytes "3") ∷ lexeme 27 (K.String true) (bytes "a") ∷ []) (block body done no_blocks) done) refl refl refl refl refl
    also six_told 1 1 refl refl refl
    also six_told 0 1 refl refl refl
    also six_told 1 3 refl refl refl
    also six_told 3 3 refl refl refl
    also six_told 8 3 refl refl refl
    also read_told (action A.Try [] (block try done (block catch done (block finally done no_blocks))) done) refl refl refl refl refl
    also read_told (action A.Try (lexeme 1 (K.String true) (bytes "e") ∷ []) (block try done (block catch done no_blocks)) done) refl refl refl refl refl
    also read_told (action A.Try [] (block try done (block finally done no_blocks)) done) refl refl refl refl refl
    also read_told (label (lexeme 0 K.Identifier (bytes "b")) (label (lexeme 2 K.Identifier (bytes "A")) (label (lexeme 4 K.Identifier (bytes "a")) (label (lexeme 6 K.Identifier (bytes "A")) done)))) refl refl refl refl refl
    also read_told (label (lexeme 0 K.Identifier (bytes "start")) (action A.Push (lexeme 3 (K.String true) (bytes "ok") ∷ lexeme 5 K.Integer (bytes "3") ∷ []) no_blocks (action A.With [] (block body (action A.Trace [] no_blocks (label (lexeme 12 K.Identifier (bytes "done")) done)) no_blocks) (action A.Jump (lexeme 17 K.Identifier (bytes "start") ∷ []) no_blocks done)))) refl refl refl refl refl
    also read_told (action A.Push (lexeme 1 (K.String false) (bytes "a") ∷ []) no_blocks (action A.With [] (block body (action A.Push (lexeme 7 K.Integer (bytes "1") ∷ lexeme 9 (K.String false) (bytes "c\\") ∷ []) no_blocks done) no_blocks) done)) refl refl refl refl refl
    also read_told (action A.With [] (block body (label (lexeme 3 K.Identifier (bytes "x")) (action A.Add [] no_blocks done)) no_blocks) (label (lexeme 9 K.Identifier (bytes "x")) (action A.Jump (lexeme 12 K.Identifier (bytes "x") ∷ []) no_blocks done))) refl refl refl refl refl
    also read_told (action A.With [] (block body (action A.InitArray [] no_blocks done) no_blocks) (action A.SetMember [] no_blocks (action A.CallFunction [] no_blocks (action A.NewMethod [] no_blocks done)))) refl refl refl refl refl
    also read_told (nested 64) refl refl refl refl refl
    also seven_told 129 131 refl refl refl
    also no_more

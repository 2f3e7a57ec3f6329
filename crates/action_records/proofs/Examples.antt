-- Worked examples, from a text's own bytes to the bytes of its export or the answer that refuses it. Assumes nothing.
use mathlib.Core.Path.{◌≡◌, refl, ap}
use mathlib.Core.Bool.{cond}
use mathlib.Core.List.{List, [], ◌∷◌, map}
use Prim.Native.Nat.{ℕ, ◌+◌, ◌*◌, ◌-◌}
use Prim.Native.String.{String}
use lib.Dec.{eqb, leb}
use lib.Count.{count_trailing_zeros}
use lib.Ieee.{neg, of_int, mul, div, round, size as digitsOf, units, odd, span, climb, to_bits}
use Rattle.actions.specs.Numbers.{number_of}
use Rattle.shapes.specs.Shapes.{shape_of}
use Rattle.answers.specs.Answers.{Answer, accepted, refused}
use Rattle.tokens.specs.declared.Token.{Token}
use Rattle.tokens.specs.Tokens.{within}
use Rattle.utf8.specs.Utf8.{char_in, starts, valid_from}
use Rattle.scanner.specs.Bytes.{is_word_byte, run_of}
use Rattle.scanner.specs.Ends.{exponent_end, point_end, power_end, sign_end, until_stop}
use Rattle.words.specs.Spellings.{bytes, spellings}
use Rattle.words.specs.Words.{index_in, lower, same_word}
use Rattle.numbers.specs.Integers.{is_natural, natural, integer, up_to, value_from, with_byte}
use Rattle.numbers.specs.Doubles.{whole_end, mantissa_end, fraction_digits, has_digit, is_exponent, is_number, scaled, double_of, double}
use Rattle.keywords.specs.Keywords.{keyword_words, named, number_after, word_kind}
use Rattle.first_token.specs.First.{first_of, number_at, return_at, string_at, word_at}
use Rattle.lexer.specs.Lexing.{lex_from, lex_text}
use Rattle.values.specs.Values.{word_value, float_value, integer_value, push_value}
use Rattle.lexemes.specs.Lexemes.{Lexeme}
use Rattle.lexemes.specs.Events.{Event, acted, named as labelled, given, opened, closed}
use Rattle.grammar.specs.Grammar.{Items, done, label, action, Blocks, no_blocks, block, Text}
use Rattle.grammar.specs.Trees.{events}
use Rattle.grammar.proofs.Computed.{room as limit, tokens-of, lexed, Lexed, Summary, emitted, fault-at, deep-at, run-of, text_of}
use Rattle.action_records.specs.declared.Style.{Style}
use Rattle.action_records.specs.declared.Style.TheVariants as Y
use Rattle.action_records.specs.Bytes.{record_of, movie_bytes}
use Rattle.action_records.specs.Export.{exported, fault_at, late_fault_at}

-- ---- how an example is written

pub record Example : Type 0 where
  pub style : Style
  pub room : ℕ
  pub text : List ℕ
  pub answer : Answer (List ℕ)

abbrev digit : ℕ → ℕ
digit b = cond (leb 97 b) (b - 87) (b - 48)

-- bytes of two hexadecimal digits, parted by spaces
abbrev hex : List ℕ → List ℕ
hex [] = []
hex (a ∷ []) = []
hex (a ∷ b ∷ []) = (digit a * 16 + digit b) ∷ []
hex (a ∷ b ∷ space ∷ w) = (digit a * 16 + digit b) ∷ hex w

infix 70 ◌writes◌
abbrev ◌writes◌ : String → String → Example
s writes h = record { style = Y.AsPlayed; room = 99; text = bytes s; answer = accepted (hex (bytes h)) }

-- the answer's number and its place
infix 70 ◌fails◌at◌
abbrev ◌fails◌at◌ : String → ℕ → ℕ → Example
s fails n at k = record { style = Y.AsPlayed; room = 99; text = bytes s; answer = refused n k }

-- with GetURL2's bits as SWF19 prints them
abbrev as_printed_lem : Example → Example
as_printed_lem e = record { style = Y.AsPrinted; room = e.room; text = e.text; answer = e.answer }

-- with so many bytes of output
abbrev room : ℕ → Example → Example
room n e = record { style = e.style; room = n; text = e.text; answer = e.answer }

-- with each # of the text a zero byte
abbrev zeros : List ℕ → List ℕ
zeros [] = []
zeros (b ∷ w) = cond (eqb b 35) 0 b ∷ zeros w

abbrev with_zeros : Example → Example
with_zeros e = record { style = e.style; room = e.room; text = zeros e.text; answer = e.answer }

-- ---- the examples

abbrev pub examples : List Example
examples =
    -- actions without operands; End is the byte 0, and Call carries a length
    "" writes ""
    ∷ "Add\nEnd\nPop" writes "0a 00 17"
    ∷ "Call" writes "9e 00 00"
    -- Push: every kind of value
    ∷ "Push" writes "96 00 00"
    ∷ "Push \"ab\", \"\"" writes "96 06 00 00 61 62 00 00 00"
    -- Push "\n\r\t\\\"\'\x"
    ∷ "Push \"\\n\\r\\t\\\\\\\"\\'\\x\"" writes "96 0a 00 00 0a 0d 09 5c 22 27 5c 78 00"
    ∷ "Push null, undefined" writes "96 02 00 02 03"
    ∷ "Push register7" writes "96 02 00 04 07"
    ∷ "Push true, false" writes "96 04 00 05 01 05 00"
    ∷ "Push 1.1" writes "96 09 00 06 99 99 f1 3f 9a 99 99 99"
    ∷ "Push infinity" writes "96 09 00 06 00 00 f0 7f 00 00 00 00"
    ∷ "Push nan" writes "96 09 00 06 00 00 f8 7f 00 00 00 00"
    ∷ "Push -0.0" writes "96 09 00 06 00 00 00 80 00 00 00 00"
    ∷ "Push 258, -2" writes "96 0a 00 07 02 01 00 00 07 fe ff ff ff"
    ∷ "Push 2147483648" writes "96 09 00 06 00 00 e0 41 00 00 00 00"
    ∷ "Push constant255, constant256" writes "96 05 00 08 ff 09 00 01"
    -- strings and numbers
    ∷ "ConstantPool \"a\", \"bc\"" writes "88 07 00 02 00 61 00 62 63 00"
    ∷ "GetUrl \"u\", \"t\"" writes "83 04 00 75 00 74 00"
    ∷ "GetUrl2 true, false, 2" writes "9a 01 00 82"
    ∷ as_printed_lem ("GetUrl2 true, false, 2" writes "9a 01 00 81")
    ∷ "GotoFrame 258" writes "81 02 00 02 01"
    ∷ "GotoFrame2 false, true" writes "9f 01 00 01"
    ∷ "GotoFrame2 true, true, 5" writes "9f 03 00 03 05 00"
    ∷ "GotoFrame2 true, true, 0" writes "9f 01 00 01"
    ∷ "GotoLabel \"ab\"" writes "8c 03 00 61 62 00"
    ∷ "StoreRegister 3" writes "87 01 00 03"
    ∷ "WaitForFrame 258, 3" writes "8a 03 00 02 01 03"
    -- bodies: a record's length counts none of them
    ∷ "With {\nAdd\n}" writes "94 02 00 01 00 0a"
    ∷ "With {\nWith {\nAdd\n}\nPop\n}" writes "94 02 00 07 00 94 02 00 01 00 0a 17"
    ∷ "DefineFunction \"f\", 2, \"a\", \"b\" {\nAdd\nReturn\n}" writes "9b 0a 00 66 00 02 00 61 00 62 00 02 00 0a 3e"
    ∷ "DefineFunction \"\", -3 {}" writes "9b 05 00 00 00 00 00 00"
    ∷ "DefineFunction2 \"f\", 1, 5, true, true, true, true, true, true, true, true, true, 2, \"p\" {\nAdd\n}"
    writes "8e 0c 00 66 00 01 00 05 ff 01 02 70 00 01 00 0a"
    ∷ "DefineFunction2 \"\", 0, 5, true, false, true, false, false, true, false, true, false {}" writes "8e 08 00 00 00 00 05 a5 00 00 00"
    -- Try: sizes of its three blocks, then the target, which counts only with a catch block
    ∷ "Try {\nAdd\n}" writes "8f 08 00 00 01 00 00 00 00 00 00 0a"
    ∷ "Try \"e\" {}\ncatch {\nPop\n}" writes "8f 09 00 01 00 00 01 00 00 00 65 00 17"
    ∷ "Try register3 {}\ncatch {}" writes "8f 08 00 05 00 00 00 00 00 00 03"
    ∷ "Try {}\ncatch {}" writes "8f 08 00 01 00 00 00 00 00 00 00"
    ∷ "Try \"e\" {}\nfinally {\nPop\n}" writes "8f 08 00 02 00 00 00 00 01 00 00 17"
    ∷ "Try register3 {\nAdd\n}\ncatch {\nPop\n}\nfinally {\nPop\nPop\n}" writes "8f 08 00 07 01 00 01 00 02 00 03 0a 17 17 17"
    -- jumps count from the end of their record: forward, back, to the level's end, over a body, within one
    ∷ "Jump a\nAdd\na: Pop" writes "99 02 00 01 00 0a 17"
    ∷ "a: Jump a" writes "99 02 00 fb ff"
    ∷ "If a\nAdd\na:" writes "9d 02 00 01 00 0a"
    ∷ "If a\nWith {\nAdd\nPop\n}\na: Add" writes "9d 02 00 07 00 94 02 00 02 00 0a 17 0a"
    ∷ "With {\na: Add\nIf a\n}" writes "94 02 00 06 00 0a 9d 02 00 fa ff"
    -- of a name written twice, the later place
    ∷ "a: Add\na: Jump a" writes "0a 99 02 00 fb ff"
    -- 10: a label of another level is none
    ∷ "a: Add\nWith {\nJump a\n}" fails 10 at 2
    ∷ "With {\na: Add\n}\nJump a" fails 10 at 2
    -- 11: a zero byte, a value out of its field, a Long number
    ∷ with_zeros ("GotoLabel \"a#\"" fails 11 at 0)
    ∷ "GetUrl2 true, false, 4" fails 11 at 0
    ∷ "Add\nPush 9007199254740993" fails 11 at 1
    -- the first action in written order counts, whichever its answer
    ∷ "Jump a\nGetUrl2 true, false, 4" fails 10 at 0
    ∷ "GetUrl2 true, false, 4\nJump a" fails 11 at 0
    -- last 12, with the length needed
    ∷ room 5 ("With {\nAdd\n}" fails 12 at 6)
    ∷ room 6 ("With {\nAdd\n}" writes "94 02 00 01 00 0a")
    ∷ room 0 ("Jump a" fails 10 at 0)
    ∷ []

-- ---- what they claim: the text lexes and has a tree, whose export is the answer

pub record Holds (e : Example) : Type 0 where
  pub lexes : Lexed e.text
  pub tree : Items
  pub fits : Text (lexed e.text) tree
  pub told : exported e.style e.room tree ≡ e.answer

infixr 50 ◌also◌
pub data All : List Example → Type 0 where
  no_more : All []
  ◌also◌ : {e : Example} {es : List Example} → Holds e → All es → All (e ∷ es)

-- ---- by computation

-- what stands behind an event: the rest of its level, the operands and blocks of the action before it, and the levels around
data Rest : Type 0 where
  nothing : Rest
  rest : Items → List Lexeme → Blocks → Rest → Rest

abbrev before : Event → Rest → Rest
before (acted n) nothing = nothing
before (acted n) (rest x os bs r) = rest (action n os bs x) [] no_blocks r
before (labelled t) nothing = nothing
before (labelled t) (rest x os bs r) = rest (label t x) os bs r
before (given t) nothing = nothing
before (given t) (rest x os bs r) = rest x (t ∷ os) bs r
before closed r = rest done [] no_blocks r
before (opened p) nothing = nothing
before (opened p) (rest x os bs nothing) = nothing
before (opened p) (rest x os bs (rest y ps cs r)) = rest y ps (block p x cs) r

abbrev from : List Event → Rest
from [] = rest done [] no_blocks nothing
from (e ∷ es) = before e (from es)

abbrev level-of : Rest → Items
level-of nothing = done
level-of (rest x os bs r) = x

abbrev told-by : Summary → Items
told-by (emitted es) = level-of (from es)
told-by (fault-at n) = done
told-by (deep-at n) = done

-- the tree that the text is read as
abbrev tree_in : Example → Items
tree_in e = told-by (run-of (lexed e.text))

-- the tokens, the run of the machine on them, the answer: what it is, and what it should be
pub record Found : Type 0 where
  pub tokens : Answer (List Token)
  pub run : Summary
  pub answer : Answer (List ℕ)

abbrev is : Example → Found
is e = record { tokens = lex_text e.text limit; run = run-of (lexed e.text); answer = exported e.style e.room (tree_in e) }

abbrev should : Example → Found
should e = record { tokens = accepted (tokens-of (lex_text e.text limit)); run = emitted (events (tree_in e) []); answer = e.answer }

first-same : {A : Type 0} {a b : A} {l m : List A} → ◌≡◌ {A = List A} (a ∷ l) (b ∷ m) → a ≡ b
first-same h = cc

rest_same : {A : Type 0} {a b : A} {l m : List A} → ◌≡◌ {A = List A} (a ∷ l) (b ∷ m) → l ≡ m
rest_same h = cc

holds : (e : Example) → is e ≡ should e → Holds e
holds e h =
    record {
      lexes = ap (λ (f : Found). f.tokens) h;
      tree = tree_in e;
      fits = text_of (lexed e.text) (tree_in e) (ap (λ (f : Found). f.run) h);
      told = ap (λ (f : Found). f.answer) h;
    }

all_hold : (es : List Example) → map is es ≡ map should es → All es
all_hold [] h = no_more
all_hold (e ∷ es) h = holds e (first-same h) also all_hold es (rest_same h)

pub told : All examples
unfolding
    bytes spellings index_in lower same_word is_natural keyword_words named natural integer number_after up_to value_from with_byte word_kind char_in starts
    valid_from is_word_byte run_of exponent_end point_end power_end sign_end until_stop first_of number_at return_at string_at word_at lex_from lex_text within
    word_value float_value integer_value push_value whole_end mantissa_end fraction_digits has_digit is_exponent is_number scaled double_of double
    neg of_int mul div round digitsOf units odd span climb count_trailing_zeros to_bits
    shape_of number_of exported movie_bytes record_of fault_at late_fault_at
told = all_hold examples refl

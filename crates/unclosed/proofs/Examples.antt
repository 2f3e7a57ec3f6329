-- A text with a string in each of two levels, closed or not. Assumes nothing.
use mathlib.Core.Path.{◌≡◌, refl}
use mathlib.Core.Bool.{Bool, true, false, cond}
use mathlib.Core.List.{List, [], ◌∷◌, map}
use Rattle.names.specs.declared.ActionName.TheVariants as A
use Rattle.actions.specs.Numbers.{number_of}
use Rattle.shapes.specs.Shapes.{shape_of}
use Rattle.tokens.specs.declared.TokenKind.TheVariants as K
use Rattle.values.specs.Values.{push_value}
use Rattle.lexemes.specs.Lexemes.{Lexeme, lexeme}
use Rattle.lexemes.specs.Events.{body}
use Rattle.grammar.specs.Grammar.{Items, done, action, no_blocks, block, push, with_block, no_operand, last, no_newline, newline, text-ends, line_ends_lem, level, ends, acts, braces, no_body, one-body, Text}
use Rattle.grammar.specs.Reading.{Level, reading_of}

-- Push "a", With {, Push "b", } on four lines; the letters of other tokens left out
abbrev tokens : Bool → Bool → List Lexeme
tokens c d =
    lexeme 0 (K.ActionName A.Push) [] ∷ lexeme 1 (K.String c) (97 ∷ []) ∷ lexeme 2 K.Newline []
    ∷ lexeme 3 (K.ActionName A.With) [] ∷ lexeme 4 K.OpenBrace [] ∷ lexeme 5 K.Newline []
    ∷ lexeme 6 (K.ActionName A.Push) [] ∷ lexeme 7 (K.String d) (98 ∷ []) ∷ lexeme 8 K.Newline [] ∷ lexeme 9 K.CloseBrace [] ∷ []

abbrev tree : Bool → Bool → Items
tree c d =
    action A.Push (lexeme 1 (K.String c) (97 ∷ []) ∷ []) no_blocks
    (action A.With [] (block body (action A.Push (lexeme 7 (K.String d) (98 ∷ []) ∷ []) no_blocks done) no_blocks) done)

pub read : (c d : Bool) → Text (tokens c d) (tree c d)
unfolding number_of shape_of push_value
read c d =
    level no_newline
    (acts (push 1) (last refl) no_body (line_ends_lem no_newline)
    (acts with_block no_operand (one-body (braces (level (newline no_newline) (acts (push 1) (last refl) no_body (line_ends_lem no_newline) ends)))) text-ends ends))

-- each level counts its own
pub counts : (c d : Bool) → map (λ (v : Level). v.unclosed) (reading_of (tree c d)).levels ≡ cond c 0 1 ∷ cond d 0 1 ∷ []
unfolding reading_of
counts true true = refl
counts true false = refl
counts false true = refl
counts false false = refl

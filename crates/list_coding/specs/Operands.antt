-- The operands of an action, by the tables of a text's reading.
use Rattle.std.specs.Prelude.{cond, List, [], ◌∷◌, map, ℕ, zero, suc, ◌+◌, ltb, get_or}
use Rattle.lexemes.specs.Lexemes.{Lexeme}
use Rattle.classes.specs.Lexemes.{lexeme_of}
use Rattle.entries.specs.declared.Action.{Action}
use Rattle.entries.specs.Entries.{operand_of}
use Rattle.movies.specs.Movie.{Value}
use Rattle.movies.specs.Meaning.{meaning}
use Rattle.list_coding.specs.declared.operands.Operands.{Operands}
pub use Rattle.list_coding.specs.Tables.{Small}

-- the token of operand entry i
abbrev pub operand_at : List ℕ → List ℕ → List ℕ → ℕ → Lexeme
operand_at text s operands i = lexeme_of text (operand_of (get_or operands i 0)).token (get_or s (operand_of (get_or operands i 0)).token 0)

-- those of so many entries from i on
abbrev pub operands_at : List ℕ → List ℕ → List ℕ → ℕ → ℕ → List Lexeme
operands_at text s operands i zero = []
operands_at text s operands i (suc n) = operand_at text s operands i ∷ operands_at text s operands (suc i) n

-- the word of operand k; 0 past the last
unfoldable pub word_at : List ℕ → List ℕ → Action → ℕ → ℕ
word_at s operands a k = cond (ltb k a.count) (get_or s (operand_of (get_or operands (a.first + k) 0)).token 0) 0

unfoldable pub values_of : List ℕ → List ℕ → List ℕ → Action → List Value
values_of text s operands a = map meaning (operands_at text s operands a.first a.count)

-- the values of the operands
abbrev pub values : Operands → List Value
values o = values_of o.text.now o.tokens.now o.operands.now o.action

-- The record of a text's action as far as the text alone tells it: sizes of bodies and a jump's offset are 0, and no block is told of.
use Rattle.std.specs.Prelude.{Bool, false, ◌&&◌, List, map, ℕ, length}
use Rattle.names.specs.declared.ActionName.{ActionName}
use Rattle.shapes.specs.Shapes.{shape_of}
use Rattle.lexemes.specs.Lexemes.{Lexeme}
use Rattle.lexemes.specs.Events.{Part}
use Rattle.movies.specs.Meaning.{meaning, normal}
use Rattle.action_records.specs.declared.Style.{Style}
use Rattle.action_records.specs.Codes.{listed}
use Rattle.action_records.specs.Fields.{Field, all_bytes, all, is16, holds}
use Rattle.action_records.specs.Operands.{fields}
use Rattle.action_records.specs.Bytes.{with_length, blank}
use Rattle.list_coding.specs.declared.operands.Operands.{Operands}
pub use Rattle.list_coding.specs.Operands.{operand_at, operands_at}

abbrev pub operands_of : Operands → List Lexeme
operands_of o = operands_at o.text.now o.tokens.now o.operands.now o.action.first o.action.count

abbrev pub head_fields : Style → ActionName → List Lexeme → List Field
head_fields y n os = fields y (shape_of n) (normal (shape_of n) false (map meaning os)) (λ (p : Part). false)

unfoldable pub head_of : Style → ActionName → List Lexeme → List ℕ
head_of y n os = with_length (listed n).code (all_bytes blank (head_fields y n os))

-- every field holds its value, and the record's length its field
unfoldable pub head_holds : Style → ActionName → List Lexeme → Bool
head_holds y n os = all holds (head_fields y n os) && is16 (length (all_bytes blank (head_fields y n os)))

-- The fields of a shape as far as the operands alone tell them.
use Rattle.std.specs.Prelude.{false, List, ◌∷◌, ◌/◌, length, drop}
use Rattle.shapes.specs.declared.Shape.{Shape}
use Rattle.lexemes.specs.Events.{Part}
use Rattle.movies.specs.Movie.{Value, ◌!◌, number_in}
use Rattle.movies.specs.Meaning.{normal}
use Rattle.action_records.specs.declared.Style.{Style}
use Rattle.action_records.specs.declared.Style.TheVariants as Y
use Rattle.action_records.specs.Fields.{Field, UI8, UI16}
use Rattle.action_records.specs.Operands.{fields}
use Rattle.action_records.specs.Operands as R
use Rattle.list_coding.specs.Flags.{flag_fields}

-- the fields of an action's record of that shape, with no block told of
abbrev pub shape_fields : Style → Shape → List Value → List Field
shape_fields y h vs = fields y h (normal h false vs) (λ (p : Part). false)

-- those of a shape that no style changes: all but GetUrl2's
abbrev pub plain_fields : Shape → List Value → List Field
plain_fields h vs = shape_fields Y.AsPlayed h vs

-- DefineFunction2 up to its parameters
abbrev pub before_parameters : List Value → List Field
before_parameters vs = R.text (vs ! 0) ∷ UI16 (length (drop 12 vs) / 2) ∷ UI8 (number_in (vs ! 2)) ∷ flag_fields vs

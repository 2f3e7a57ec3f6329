-- The movie that a text says: document 02, §2 and §12.
use Rattle.std.specs.Prelude.{Bool, true, false, cond, ◌||◌, List, [], ◌∷◌, map, ℕ, ◌/◌, eqb, length, drop}
use Rattle.std.proofs.Math.Option.{Option, none, some}
use Rattle.shapes.specs.declared.Shape.{Shape}
use Rattle.shapes.specs.declared.Shape.TheVariants as S
use Rattle.shapes.specs.Shapes.{shape_of}
use Rattle.values.specs.declared.PushValue.{PushValue}
use Rattle.values.specs.declared.PushValue.TheVariants as P
use Rattle.lexemes.specs.Lexemes.{Lexeme, raw, same_name}
use Rattle.lexemes.specs.Operands.{value_of}
use Rattle.lexemes.specs.Events.{catch}
use Rattle.grammar.specs.Grammar as G
use Rattle.grammar.specs.Reading.{Label, own_labels}
use Rattle.movies.specs.Movie.{Value, string, number, integer, bool, register, constant, null, undefined, position, long, missing, done, action, Blocks, no_blocks, block, Act, Movie, ◌!◌, whole, number_in, is_part}
use Rattle.movies.specs.Strings.{decoded}

-- ---- operands

-- (each operand that the grammar takes is worth something)
abbrev pub meant : Option PushValue → List ℕ → Value
meant none w = null
meant (some (P.String s)) w = string (decoded w)
meant (some P.True) w = bool true
meant (some P.False) w = bool false
meant (some P.Null) w = null
meant (some P.Undefined) w = undefined
meant (some (P.Register n)) w = register n
meant (some (P.Constant n)) w = constant n
meant (some (P.Integer z)) w = integer z
meant (some (P.Float x)) w = number x
meant (some (P.Long s)) w = long

abbrev pub meaning : Lexeme → Value
meaning t = meant (value_of t) (raw t)

-- the position of the label of that name
abbrev pub position_of : List ℕ → List Label → Value
position_of w [] = missing
position_of w (k ∷ ks) = cond (same_name w (raw k.name)) (position k.position) (position_of w ks)

-- a catch with no target gets the empty variable name
abbrev pub target_or : Bool → List Value → List Value
target_or true [] = string [] ∷ []
target_or false [] = []
target_or c (v ∷ vs) = v ∷ vs

-- a negative count is 0, and a bias of 0 is none
abbrev pub normal : Shape → Bool → List Value → List Value
normal S.Nothing c vs = vs
normal S.Values c vs = vs
normal S.Strings c vs = vs
normal S.StringString c vs = vs
normal S.BoolBoolU8 c vs = vs
normal S.U16 c vs = vs
normal S.BoolBoolMaybeU16 c vs = cond (eqb (number_in (vs ! 2)) 0) (bool false ∷ (vs ! 1) ∷ []) vs
normal S.String c vs = vs
normal S.Identifier c vs = vs
normal S.U8 c vs = vs
normal S.U16U8 c vs = vs
normal S.Function c vs = (vs ! 0) ∷ whole (length (drop 2 vs)) ∷ drop 2 vs
normal S.Function2 c vs = (vs ! 0) ∷ whole (length (drop 12 vs) / 2) ∷ drop 2 vs
normal S.Block c vs = vs
normal S.Try c vs = target_or c vs

abbrev pub has_catch : G.Blocks → Bool
has_catch G.no_blocks = false
has_catch (G.block p x bs) = is_part catch p || has_catch bs

-- jumps by position
abbrev pub is_jump : Shape → Bool
is_jump S.Nothing = false
is_jump S.Values = false
is_jump S.Strings = false
is_jump S.StringString = false
is_jump S.BoolBoolU8 = false
is_jump S.U16 = false
is_jump S.BoolBoolMaybeU16 = false
is_jump S.String = false
is_jump S.Identifier = true
is_jump S.U8 = false
is_jump S.U16U8 = false
is_jump S.Function = false
is_jump S.Function2 = false
is_jump S.Block = false
is_jump S.Try = false

abbrev pub operands_of : Shape → List Label → G.Blocks → List Lexeme → List Value
operands_of s l bs os =
    cond (is_jump s) (map (λ (t : Lexeme). position_of (raw t) l) os) (normal s (has_catch bs) (map meaning os))

-- ---- levels

abbrev mutual
  -- of a level with these labels
  pub meaning_in : List Label → G.Items → Movie
  meaning_in l G.done = done
  meaning_in l (G.label t x) = meaning_in l x
  meaning_in l (G.action n os bs x) = action (record { name = n; operands = operands_of (shape_of n) l bs os }) (blocks_in bs) (meaning_in l x)

  pub blocks_in : G.Blocks → Blocks Act
  blocks_in G.no_blocks = no_blocks
  blocks_in (G.block p x bs) = block p (meaning_in (own_labels 0 0 [] x) x) (blocks_in bs)

-- the movie of a text's tree
abbrev pub meaning_of : G.Items → Movie
meaning_of x = meaning_in (own_labels 0 0 [] x) x

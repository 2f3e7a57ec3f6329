-- What an operand must be, by the action's shape and the operand's number: the classes of the grammar's `Takes`, as a patch's author knows
-- them.
use Rattle.std.specs.Prelude.{List, [], ◌∷◌, ◌++◌, ℕ, zero, suc, get_or, replicate}
use Rattle.shapes.specs.declared.Shape.{Shape}
use Rattle.shapes.specs.declared.Shape.TheVariants as S
use Rattle.wanted.specs.declared.Wanted.{Wanted}
use Rattle.wanted.specs.declared.Wanted.TheVariants as W

-- that many pairs of a register and a parameter
abbrev pub pairs : ℕ → List Wanted
pairs zero = []
pairs (suc k) = W.Register ∷ W.Parameter ∷ pairs k

-- the operand of a number in a list of them; none past its end
abbrev pub nth : List Wanted → ℕ → Wanted
nth l n = get_or l n W.Nothing

-- a GotoFrame2 has a third operand unless 0 is given
abbrev pub bias : ℕ → Wanted
bias zero = W.Nothing
bias (suc g) = W.U16

-- `given` is what the operands before it say: a function's count; of a GotoFrame2, 0 unless its first bool is true
unfoldable pub wanted_at : Shape → (number given : ℕ) → Wanted
wanted_at S.Nothing n g = W.Nothing
wanted_at S.Values n g = W.Value
wanted_at S.Strings n g = W.String
wanted_at S.StringString n g = nth (W.String ∷ W.String ∷ []) n
wanted_at S.BoolBoolU8 n g = nth (W.Bool ∷ W.Bool ∷ W.U8 ∷ []) n
wanted_at S.U16 n g = nth (W.U16 ∷ []) n
wanted_at S.BoolBoolMaybeU16 n g = nth (W.Bool ∷ W.Bool ∷ bias g ∷ []) n
wanted_at S.String n g = nth (W.String ∷ []) n
wanted_at S.Identifier n g = nth (W.Label ∷ []) n
wanted_at S.U8 n g = nth (W.U8 ∷ []) n
wanted_at S.U16U8 n g = nth (W.U16 ∷ W.U8 ∷ []) n
wanted_at S.Function n g = nth (W.String ∷ W.Count ∷ replicate g W.Parameter) n
wanted_at S.Function2 n g = nth (W.String ∷ W.Count ∷ W.U8 ∷ (replicate 9 W.Flag ++ pairs g)) n
wanted_at S.Block n g = W.Nothing
wanted_at S.Try n g = nth (W.Target ∷ []) n

-- Which operands an action takes: document 01, 'Grammar', a row for each action that it names.
use Rattle.std.specs.Prelude.{cond, List, [], ◌∷◌}
use Rattle.actions.specs.Numbers.{is_action}
use Rattle.shapes.specs.declared.Shape.{Shape}
use Rattle.shapes.specs.declared.Shape.TheVariants as S
use Rattle.names.specs.declared.ActionName.{ActionName}
use Rattle.names.specs.declared.ActionName.TheVariants as A

pub record Row : Type 0 where
  pub action : ActionName
  pub shape : Shape

infix 70 ◌takes◌
abbrev pub ◌takes◌ : ActionName → Shape → Row
a takes s = record { action = a; shape = s }

abbrev pub rows : List Row
rows =
    A.Push takes S.Values
    ∷ A.ConstantPool takes S.Strings
    ∷ A.GetUrl takes S.StringString
    ∷ A.GetUrl2 takes S.BoolBoolU8
    ∷ A.GotoFrame takes S.U16
    ∷ A.GotoFrame2 takes S.BoolBoolMaybeU16
    ∷ A.GotoLabel takes S.String
    ∷ A.SetTarget takes S.String
    ∷ A.If takes S.Identifier
    ∷ A.Jump takes S.Identifier
    ∷ A.StoreRegister takes S.U8
    ∷ A.WaitForFrame2 takes S.U8
    ∷ A.WaitForFrame takes S.U16U8
    ∷ A.DefineFunction takes S.Function
    ∷ A.DefineFunction2 takes S.Function2
    ∷ A.With takes S.Block
    ∷ A.Try takes S.Try
    ∷ []

abbrev pub shape_in : List Row → ActionName → Shape
shape_in [] a = S.Nothing
shape_in (r ∷ l) a = cond (is_action a r.action) r.shape (shape_in l a)

-- all other actions have no operand
unfoldable pub shape_of : ActionName → Shape
shape_of a = shape_in rows a
